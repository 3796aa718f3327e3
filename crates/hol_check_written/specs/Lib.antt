pub mod Variables
pub mod Written
pub mod Making
