pub mod Building
pub mod Evaluating
pub mod OpenBinders
pub mod Scope
pub mod SequentStates
pub mod TypeStack
pub mod UniqueSequents
