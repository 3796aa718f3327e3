pub mod LogTables
pub mod LogRuns
pub mod LogParts
pub mod KeptTheory
pub mod WrittenLemmas
pub mod MarkingLemmas
pub mod MentionLemmas
pub mod WriterLemmas
pub mod NamesLemmas
pub mod NumberedLemmas
pub mod LogEntries
pub mod LogClaims
pub mod EarlierEntries
pub mod StepLineLemmas
pub mod EntryLoopLemmas
pub mod PrunedLemmas
mod LogTextLemmas
