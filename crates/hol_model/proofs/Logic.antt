-- Theories, what is known, legal and derivable.
pub mod Later
pub mod Known
pub mod KnownTerms
pub mod LegalEntries
pub mod Conditions
pub mod Checks
pub mod LegalLogic
pub mod Earlier
