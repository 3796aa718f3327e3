pub mod Runs
pub mod Gathering
pub mod Moves
pub mod Repeats
pub mod Posing
pub mod Accepted
