-- What a rule answers on theorems.
use Rattle.std.specs.Prelude.{List, [], ◌∷◌, map, Result}
use Rattle.std.proofs.Common.{Bor}
use Rattle.hol_model.specs.declared.fault.Fault.{Fault}
use Rattle.hol_model.specs.Logic.Theory.{Theory}
use Rattle.hol_model.specs.Kernel.Theorem.{Theorem}
use Rattle.hol_model.specs.Derived.InferenceRules.{InferenceRule}
use Rattle.hol_model_rules.specs.RuleOutcomes.{IsOutcome}
use Rattle.hol_journal.specs.Journal.{Journal, Recorded, IsMade}

-- the theorems that are lent to a rule
abbrev pub lent_theorems : List (Bor Recorded) → List Theorem
lent_theorems lent = map (λ made. made.now.theorem) lent

-- the recorder made each of them
abbrev pub AreLent : Journal → List (Bor Recorded) → Type 0
AreLent journal [] = Unit {0}
AreLent journal (made ∷ all) = IsMade journal made.now × AreLent journal all

-- the call answers by the rule's own outcome
pub record AnswersBy (theory : Theory) (rule : InferenceRule) (premises : List Theorem) (result : Result Theorem Fault) : Type 0 where
  pub is : IsOutcome theory rule premises result
