-- The rules of inference, over the terms and types of the definitions.
use Rattle.hol_model.specs.declared.rule.Rule.{Rule}
use Rattle.hol_model.specs.Terms.HolType.{HolType}
use Rattle.hol_model.specs.Terms.NamedTerm.{NamedTerm}

abbrev pub InferenceRule : Type 0
InferenceRule = Rule NamedTerm HolType
