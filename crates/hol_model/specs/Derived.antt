-- Derived rules and the table of rules.
pub mod DerivedRules
pub mod InferenceRules
pub mod Inference
pub mod Prelude
