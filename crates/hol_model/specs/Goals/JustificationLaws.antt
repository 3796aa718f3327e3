-- The statements of the laws on justifications.
use Rattle.std.specs.Prelude.{◌≡◌, ℕ, List, slice_get}
use Rattle.hol_model.specs.Logic.Theory.{Theory, IsEarlier, IsLegal}
use Rattle.hol_model.specs.Goals.Goals.{Sequent, Goal}
use Rattle.hol_model.specs.Derived.InferenceRules.{InferenceRule}
use Rattle.hol_model.specs.Derived.Inference.{rule_sequent}
use Rattle.hol_model.specs.Goals.Strength.{AreAsStrong, AnswersAsStrong}
use Rattle.hol_model.specs.Goals.Justifications.{Justification, NamedSequents, Subgoals, sequent_over, sequent_of}
use Rattle.hol_model.specs.Goals.ValidSteps.{Step, IsValid, AreValid, PassesReplays}
use Rattle.hol_model.specs.Goals.Splicing.{Portion, splice, numbered_portion, spliced}

-- from premises as strong, a rule draws a sequent as strong
abbrev pub RulesAreMonotone : Type 0
RulesAreMonotone =
    (theory : Theory) (rule : InferenceRule) (strongs weaks : List Sequent) → AreAsStrong strongs weaks
    → AnswersAsStrong (rule_sequent theory rule strongs) (rule_sequent theory rule weaks)

-- from sequents as strong for its subgoals, a justification makes a sequent as strong
abbrev pub IsMonotone : Type 0
IsMonotone =
    (theory : Theory) (store : NamedSequents) (strongs weaks : List Sequent) → AreAsStrong strongs weaks → (justification : Justification)
    → AnswersAsStrong (sequent_of theory store strongs justification) (sequent_of theory store weaks justification)

-- a step that passes both replays is valid
abbrev pub ReplaysShowValid : Type 0
ReplaysShowValid = (theory : Theory) (store : NamedSequents) (goal : Goal) (step : Step) → PassesReplays theory store goal step → IsValid theory store goal step

-- the sequent of a spliced justification is that of the justification over the sequents of the portions
abbrev pub SpliceHasSequent : Type 0
SpliceHasSequent =
    (theory : Theory) (store : NamedSequents) (subgoals : Subgoals) (justification : Justification) (portions : List Portion)
    → sequent_over theory store subgoals (splice justification portions)
    ≡ sequent_over theory store (λ i. sequent_over theory store subgoals (numbered_portion 0 portions i)) justification

-- a valid step whose subgoals are refined by valid steps is valid
abbrev pub SplicesValid : Type 0
SplicesValid =
    (theory : Theory) (store : NamedSequents) (goal : Goal) (step : Step) (steps : List Step)
    → IsValid theory store goal step → AreValid theory store step.goals steps → IsValid theory store goal (spliced step steps)

-- each theorem and each lemma that is named in the first has a sequent as strong in the second
pub record IsLaterStore (old new : NamedSequents) : Type 0 where
  pub named : (name : List ℕ) → AnswersAsStrong (new.named name) (old.named name)
  pub lemmas : (k : ℕ) → AnswersAsStrong (slice_get new.lemmas k) (slice_get old.lemmas k)

-- what is valid stays so while the theory and the store grow
abbrev pub StaysValid : Type 0
StaysValid =
    (earlier now : Theory) (old new : NamedSequents) → IsEarlier earlier now → IsLegal now → IsLaterStore old new
    → (goal : Goal) (step : Step) → IsValid earlier old goal step → IsValid now new goal step
