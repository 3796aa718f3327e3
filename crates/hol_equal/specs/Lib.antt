pub mod Sequents
pub mod Fits
pub mod Room
pub mod Formulas
pub mod Conversions
pub mod Inferred
