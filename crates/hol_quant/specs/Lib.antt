pub mod PredicateLemmas
pub mod QuantifiedParts
pub mod Universals
pub mod Witnesses
