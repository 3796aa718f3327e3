pub mod Host
pub mod Stored
