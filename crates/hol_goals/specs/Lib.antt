pub mod Stages
pub mod Settings
pub mod Refinements
pub mod Turning
pub mod Expansions
pub mod Made
pub mod Closing
pub mod Running
