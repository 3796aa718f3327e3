pub mod Tree
pub mod Net
