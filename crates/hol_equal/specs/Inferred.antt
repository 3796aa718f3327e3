-- What a call that does a rule of inference answers, by the table of rules.
use Rattle.std.specs.Prelude.{◌≡◌, ◌⊎◌, List, map, Option, Some, None, Result, Ok, Err}
use Rattle.hol_model.specs.declared.fault.Fault.{Fault}
use Rattle.hol_model.specs.declared.fault.Fault.TheVariants.{Memory, TooLarge}
use Rattle.hol_model.specs.Logic.Theory.{Theory}
use Rattle.hol_model.specs.Kernel.Theorem.{Theorem}
use Rattle.hol_model.specs.Goals.Goals.{Sequent}
use Rattle.hol_model.specs.Derived.InferenceRules.{InferenceRule}
use Rattle.hol_model.specs.Derived.Inference.{rule_sequent}
use Rattle.hol_journal.specs.Steps.{sequent_of_theorem}
use Rattle.hol_equal.specs.Sequents.{Shows}

-- a theorem of the sequent that is drawn; a refusal where none is drawn, where there is no memory, or where a term is too
-- large
abbrev pub IsDrawn : Option Sequent → Result Theorem Fault → Type 0
IsDrawn (Some sequent) (Ok theorem) = Shows theorem sequent.hypotheses sequent.conclusion
IsDrawn (Some sequent) (Err fault) = (fault ≡ Memory) ⊎ (fault ≡ TooLarge)
IsDrawn None (Ok theorem) = ⊥
IsDrawn None (Err fault) = Unit {0}

-- the call answers what the rule draws from the sequents of its premises
pub record Infers (theory : Theory) (rule : InferenceRule) (premises : List Theorem) (result : Result Theorem Fault) : Type 0 where
  pub drawn : IsDrawn (rule_sequent theory rule (map sequent_of_theorem premises)) result
