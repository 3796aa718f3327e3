pub mod LawTheorems
pub mod HasLaws
