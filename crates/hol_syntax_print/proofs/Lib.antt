pub mod Shapes
pub mod Printed
pub mod ReadableTerms
pub mod TreesMean
pub mod PrintedDepth
pub mod TextsReadBack
pub mod SequentTexts
pub mod OneLine
