pub mod FalseRows
pub mod Forms
pub mod Words
pub mod NumberedFormulas
pub mod PutParts
pub mod AddedAtoms
