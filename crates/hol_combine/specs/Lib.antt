pub mod Posed
pub mod Answers
pub mod Repeating
