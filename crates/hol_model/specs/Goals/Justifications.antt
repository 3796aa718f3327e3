-- Justifications: how the sequents of subgoals make the sequent of a goal (the validations of Edinburgh LCF's tactics,
-- as data).
use Rattle.std.specs.Prelude.{ℕ, List, [], ◌∷◌, Option, Some, None, slice_get}
use Rattle.hol_model.specs.Logic.Theory.{Theory}
use Rattle.hol_model.specs.Goals.Goals.{Sequent}
use Rattle.hol_model.specs.Derived.InferenceRules.{InferenceRule}
use Rattle.hol_model.specs.Derived.Inference.{given, rule_sequent}

mutual
  -- the sequent of a subgoal, a stored theorem, a lemma, or what a rule draws from the justifications of its premises
  pub data Justification : Type 0 where
    sub : ℕ → Justification
    named : List ℕ → Justification
    lemma : ℕ → Justification
    by_rule : InferenceRule → Parts → Justification

  pub data Parts : Type 0 where
    no_parts : Parts
    part : Justification → Parts → Parts

-- the sequents that a justification may name: of the stored theorems, and of the lemmas
pub record NamedSequents : Type 0 where
  pub named : List ℕ → Option Sequent
  pub lemmas : List Sequent

-- the sequent that stands for each subgoal
abbrev pub Subgoals : Type 0
Subgoals = ℕ → Option Sequent

-- a list with one more element in front, where both are there
abbrev pub joined : {A : Type 0} → Option A → Option (List A) → Option (List A)
joined None rest = None
joined (Some first) None = None
joined (Some first) (Some rest) = Some (first ∷ rest)

abbrev mutual
  pub sequent_over : Theory → NamedSequents → Subgoals → Justification → Option Sequent
  sequent_over theory store subgoals (sub i) = subgoals i
  sequent_over theory store subgoals (named name) = store.named name
  sequent_over theory store subgoals (lemma k) = slice_get store.lemmas k
  sequent_over theory store subgoals (by_rule rule parts) = given (sequents_over theory store subgoals parts) (rule_sequent theory rule)

  pub sequents_over : Theory → NamedSequents → Subgoals → Parts → Option (List Sequent)
  sequents_over theory store subgoals no_parts = Some []
  sequents_over theory store subgoals (part first rest) = joined (sequent_over theory store subgoals first) (sequents_over theory store subgoals rest)

-- the sequent of a justification, where the subgoals have these sequents; none where it names what is not there, or a
-- rule draws none
abbrev pub sequent_of : Theory → NamedSequents → List Sequent → Justification → Option Sequent
sequent_of theory store sequents justification = sequent_over theory store (slice_get sequents) justification
