pub mod FreeNames
pub mod TypePlaces
mod Equations
