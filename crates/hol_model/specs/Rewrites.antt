-- Matching and rewriting.
pub mod Matching
pub mod Places
pub mod RenamedBody
pub mod RewriteRules
pub mod Choice
pub mod SmallTerms
pub mod Rewriting
