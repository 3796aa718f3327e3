pub mod ReplacementLemmas
pub mod NamedLemmas
pub mod RowLemmas
pub mod MadeTheorems
pub mod TautologyLemmas
pub mod ConversionLemmas
pub mod ThmLemmas
