pub mod RuleForms
pub mod RuleOutcomes
