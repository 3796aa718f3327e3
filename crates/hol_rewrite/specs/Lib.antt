pub mod Forms
pub mod Rules
pub mod Reduction
pub mod Sides
pub mod RuleSides
pub mod Instances
