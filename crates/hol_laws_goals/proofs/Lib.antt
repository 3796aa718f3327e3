pub mod Passing
pub mod Knowledge
pub mod Closing
pub mod ValidProofs
