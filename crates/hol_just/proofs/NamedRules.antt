-- The rules of names, with their number of terms.
use Rattle.std.proofs.Common.{◌≡◌, List, [], ◌∷◌, length, refl, Option, None, Some}
use Rattle.std.specs.Prelude.{IsSome}
use Rattle.hol_model.specs.Terms.NamedTerm.{NamedTerm}
use Rattle.hol_model.specs.Derived.InferenceRules.{InferenceRule}
use Rattle.hol_model_rules.specs.declared.rule_name.RuleName.{RuleName}
use Rattle.hol_model_rules.specs.declared.rule_name.RuleName.TheVariants.{Refl, Exists}
use Rattle.hol_model_rules.specs.RuleForms.{form_of}
use Rattle.hol_model_rules.specs.RuleOutcomes.{rule_with}

-- there is a rule for the number of terms that its form tells
has-rule : (rule : RuleName) (terms : List NamedTerm) → length terms ≡ (form_of rule).terms → None ≡ rule_with rule terms → ⊥
has-rule Refl [] same none = cc
has-rule rule [] same none = cc
has-rule Refl (t ∷ []) same none = cc
has-rule rule (t ∷ []) same none = cc
has-rule Exists (t ∷ u ∷ []) same none = cc
has-rule rule (t ∷ u ∷ rest) same none = cc

pub takes_terms : (name : RuleName) (terms : List NamedTerm) (result : Option InferenceRule) → result ≡ rule_with name terms → length terms ≡ (form_of name).terms → IsSome result
takes_terms name terms (Some rule) is same = refl
takes_terms name terms None is same = absurd (has-rule name terms same is)
