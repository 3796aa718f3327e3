pub mod Output
pub mod PrintedType
pub mod Shape
pub mod Innermost
