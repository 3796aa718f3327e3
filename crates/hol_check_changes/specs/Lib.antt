pub mod Pairs
pub mod TypeChange
pub mod Change
pub mod Forming
