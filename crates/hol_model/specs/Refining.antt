-- Conversions, refiners, combinators and a host's functions.
pub mod HostFunctions
pub mod Conversions
pub mod Refiners
pub mod Combinators
pub mod RefinerConditions
