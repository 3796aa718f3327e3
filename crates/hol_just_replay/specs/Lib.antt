pub mod Named
pub mod Room
pub mod Outcomes
pub mod Lines
pub mod Accepting
