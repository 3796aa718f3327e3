pub mod LogAnswerLemmas
pub mod ClaimLemmas
pub mod CheckingLemmas
pub mod MigrationLemmas
pub mod HeaderLemmas
pub mod ReportLemmas
