pub mod Binders
pub mod Theories
pub mod Usual
pub mod Reviews
pub mod Written
