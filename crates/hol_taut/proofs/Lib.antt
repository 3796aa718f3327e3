mod LawLemmas
mod KnownValues
mod WayLemmas
mod ProvedLemmas
mod FormLemmas
mod LeafLemmas
mod ShownLemmas
mod ShownSteps
mod RefutedLemmas
pub mod AtomLemmas
mod TautologyLemmas
mod SmallLemmas
mod TautAnswers
mod NextLemmas
mod PlanLemmas
