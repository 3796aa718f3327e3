pub mod Answers
pub mod Recording
pub mod Rows
pub mod Sessions
