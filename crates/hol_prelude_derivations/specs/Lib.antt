pub mod Sketches
pub mod RuleOutcomes
pub mod Derivations
pub mod Makings
