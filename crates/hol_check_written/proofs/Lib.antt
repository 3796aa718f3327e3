pub mod WritesLemmas
pub mod NamedLemmas
pub mod ApartLemmas
pub mod MemoLemmas
pub mod MakingLemmas
