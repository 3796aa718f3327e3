-- Proof logs.
pub mod LogTests
pub mod AcceptedLog
pub mod AcceptedText
