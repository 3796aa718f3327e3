pub mod CommandTurns
pub mod RunLemmas
pub mod RunLogLemmas
pub mod HeadlineLemmas
pub mod EndLemmas
pub mod DeviceLemmas
pub mod CourseLemmas
pub mod ConversationLemmas
