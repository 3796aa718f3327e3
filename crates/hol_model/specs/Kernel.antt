-- What the kernel's calls answer.
pub mod Fault
pub mod Outcome
pub mod Answers
pub mod Theorem
pub mod TheoremCode
pub mod Rules
pub mod Acceptance
pub mod Constructors
pub mod Instantiation
pub mod NamedAxioms
