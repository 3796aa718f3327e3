pub mod TableAnswers
pub mod Rows
pub mod Scope
pub mod Sums
pub mod Growth
pub mod Answers
