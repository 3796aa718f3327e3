-- Readings and texts.
pub mod KnownTexts
