pub mod Steps
pub mod Expressions
