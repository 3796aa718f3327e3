pub mod GoalTexts
pub mod GoalTurns
pub mod Shown
pub mod Managing
pub mod SettingGoals
pub mod Expanding
pub mod Replayed
pub mod CommandTurns
mod Refusing
