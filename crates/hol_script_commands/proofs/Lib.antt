pub mod CutLemmas
pub mod ReadingLemmas
pub mod PairLemmas
pub mod CommandLemmas
