-- What the kernel's calls answer.
pub mod Refusals
pub mod Outcomes
pub mod Acceptance
