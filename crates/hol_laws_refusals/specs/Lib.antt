pub mod Faults
pub mod KnownRules
pub mod Laws
pub mod SessionRefusals
pub mod SmallConversions
pub mod SmallRefiners
pub mod SmallGoals
pub mod SmallLaws
