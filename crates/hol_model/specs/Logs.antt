-- Proof logs.
pub mod LogLine
pub mod LogState
pub mod LogSequents
pub mod LogFaults
pub mod LogText
pub mod LogLaws
pub mod LogClaims
