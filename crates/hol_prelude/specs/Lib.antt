pub mod HasLogic
pub mod Prelude
pub mod Laws
pub mod Stages
