pub mod FieldLemmas
pub mod SplitLemmas
pub mod ListLemmas
pub mod ArgumentLemmas
pub mod JoinLemmas
pub mod LineLemmas
pub mod LogLemmas
pub mod AcceptedLemmas
pub mod WriteLemmas
mod WrittenLemmas
pub mod SmallLogs
