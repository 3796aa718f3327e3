pub mod Parts
pub mod Sequents
