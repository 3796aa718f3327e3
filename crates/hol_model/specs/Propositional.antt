-- Propositions and tautologies.
pub mod Propositions
pub mod Tautologies
pub mod Connectives
