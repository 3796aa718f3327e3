pub mod PairLemmas
pub mod TypeChangeLemmas
pub mod ChangeLemmas
pub mod LeafLemmas
pub mod LimitLemmas
pub mod FormingLemmas
