pub mod GoalTexts
pub mod Provers
pub mod Managers
pub mod Refusals
pub mod Session
pub mod Commands
