pub mod Runs
pub mod RunLogs
pub mod Managers
pub mod Conversations
pub mod Courses
pub mod Endings
