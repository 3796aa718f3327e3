pub mod DerivationSize
pub mod DerivationLemmas
