pub mod PreludeInstances
pub mod Conjunctions
pub mod Disjunctions
pub mod Axioms
pub mod PrimitiveRules
