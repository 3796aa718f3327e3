pub mod FormLemmas
mod NewTerms
mod Bits
pub mod Rows
mod RowWords
mod FalsityLemmas
mod AddedAtoms
mod Places
mod PartsLemmas
mod WordLemmas
