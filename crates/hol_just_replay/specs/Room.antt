-- Where a rule of inference has room.
use Rattle.std.specs.Prelude.{◌≡◌, List, [], ◌∷◌, map, Bool, true, Result, Ok, Err}
use Rattle.std.specs.List.{list_all}
use Rattle.hol_model.specs.declared.fault.Fault.{Fault}
use Rattle.hol_model.specs.declared.fault.Fault.TheVariants.{TooLarge}
use Rattle.hol_model.specs.Terms.Nameless.{Nameless}
use Rattle.hol_model.specs.Logic.Theory.{Theory}
use Rattle.hol_model.specs.Kernel.Theorem.{Theorem}
use Rattle.hol_model.specs.Derived.DerivedRules.{is_roomy, terms_of_theorem}
use Rattle.hol_model.specs.Derived.InferenceRules.{InferenceRule}
use Rattle.hol_model.specs.Derived.Inference.{rule_sequent}
use Rattle.hol_model.specs.Goals.Replays.{sequent_of_theorem, terms_of_rule, terms_of_sequent}

-- the call does not answer that a term is too large
abbrev pub IsNotLarge : {A : Type 0} → Result A Fault → Type 0
IsNotLarge (Ok x) = Unit {0}
IsNotLarge (Err fault) = fault ≡ TooLarge → ⊥

abbrev pub are_roomy : List Nameless → Bool
are_roomy terms = list_all is_roomy terms

-- the terms of each theorem leave room
abbrev pub AreRoomy : List Theorem → Type 0
AreRoomy [] = Unit {0}
AreRoomy (theorem ∷ theorems) = (are_roomy (terms_of_theorem theorem) ≡ true) × AreRoomy theorems

-- the terms that the rule takes, those of its premises, and those of the sequent that it draws leave room
pub record HasRoom (theory : Theory) (rule : InferenceRule) (premises : List Theorem) : Type 0 where
  pub taken : are_roomy (terms_of_rule rule) ≡ true
  pub premises_roomy : AreRoomy premises
  pub drawn : are_roomy (terms_of_sequent (rule_sequent theory rule (map sequent_of_theorem premises))) ≡ true

-- the rule's call answers that a term is too large only where there is no room
pub record FindsRoom (theory : Theory) (rule : InferenceRule) (premises : List Theorem) (result : Result Theorem Fault) : Type 0 where
  pub finds : HasRoom theory rule premises → IsNotLarge result
