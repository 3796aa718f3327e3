pub mod Walk
pub mod Frames
pub mod Inside
pub mod Once
