pub mod SameBinders
pub mod SameTests
