pub mod Chains
pub mod Negations
