pub mod PreludeLemmas
pub mod StoredLemmas
