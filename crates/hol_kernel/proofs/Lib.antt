pub mod HypothesesLemmas
pub mod OrderLemmas
pub mod PlaceLemmas
pub mod RuleLemmas
pub mod LimitLemmas
pub mod DefinitionLemmas
pub mod InstanceLemmas
pub mod TheoremLemmas
mod KnownLemmas
