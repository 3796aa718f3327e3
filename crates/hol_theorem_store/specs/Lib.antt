pub mod Stored
pub mod Store
