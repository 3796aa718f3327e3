pub mod SessionState
pub mod Performing
pub mod Answers
pub mod Growth
pub mod Beginning
pub mod StoredClaims
