pub mod TableLemmas
pub mod NamesLemmas
pub mod TypeLemmas
pub mod TypedLemmas
pub mod TermLemmas
pub mod MemoLemmas
pub mod GrowthLemmas
pub mod NumberLemmas
pub mod OccursLemmas
pub mod ReflectionLemmas
pub mod TypingLemmas
mod KnownTypeLemmas
