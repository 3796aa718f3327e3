-- Names, types and terms.
pub mod Name
pub mod HolType
pub mod HolTypeCode
pub mod NamedTerm
pub mod NamedTermCode
pub mod WellNamed
pub mod Nameless
pub mod Measures
pub mod Substitution
pub mod NamelessCode
pub mod Order
