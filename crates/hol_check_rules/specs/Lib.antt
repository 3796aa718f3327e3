pub mod Hypotheses
pub mod Known
pub mod State
pub mod Judged
pub mod Steps
pub mod StepPairs
pub mod Definitions
