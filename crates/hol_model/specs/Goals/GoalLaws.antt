-- When the proof of a goal is sound, and the statements of the laws that it stays so.
use Rattle.std.specs.Prelude.{◌≡◌, ◌⊎◌, ℕ, Bool, true, List, [], ◌∷◌, Option, None, IfSome, Result, Ok, Err}
use Rattle.hol_model.specs.declared.fault.Fault.{Fault}
use Rattle.hol_model.specs.declared.fault.Fault.TheVariants.{Memory, TooLarge}
use Rattle.hol_model.specs.Terms.NamedTerm.{NamedTerm, equation, is_within_limits}
use Rattle.hol_model.specs.Logic.Theory.{Theory, IsEarlier, IsLegal}
use Rattle.hol_model.specs.Kernel.Theorem.{Theorem}
use Rattle.hol_model.specs.Kernel.Rules.{is_formula, first_unknown}
use Rattle.hol_model.specs.Goals.Goals.{Goal, Achieves}
use Rattle.hol_model.specs.Goals.Justifications.{Justification, sequent_of}
use Rattle.hol_model.specs.Goals.ValidSteps.{Step}
use Rattle.hol_model.specs.Goals.JustificationLaws.{IsLaterStore}
use Rattle.hol_model.specs.Goals.Replays.{Store, sequent_of_theorem, sequents_in, AnswersReplay}
use Rattle.hol_model.specs.Goals.GoodSteps.{IsGoodStep}
use Rattle.hol_model.specs.Goals.GoalStates.{Stage, underway, proved, Proof, set_outcome, back_outcome, rotate_outcome, Focus, focus_outcome, IsExpanded, Stack, reverted}

-- the target is a known formula, and so is its equation with itself
pub record IsSettable (theory : Theory) (goal : Goal) : Type 0 where
  pub formula : is_formula goal.target ≡ true
  pub known : first_unknown theory goal.target ≡ None
  pub fits : is_within_limits (equation goal.target goal.target) ≡ true

-- the theorem achieves the goal, whose own term is its conclusion
pub record IsClosing (goal : Goal) (theorem : Theorem) : Type 0 where
  pub achieves : Achieves goal (sequent_of_theorem theorem)
  pub own_term : theorem.conclusion ≡ goal.target

abbrev pub IsValidStage : Theory → Store → Goal → Stage → Type 0
IsValidStage theory store goal (underway step) = IsGoodStep theory store goal step
IsValidStage theory store goal (proved theorem) = IsClosing goal theorem

abbrev pub AreValidStages : Theory → Store → Goal → List Stage → Type 0
AreValidStages theory store goal [] = Unit {0}
AreValidStages theory store goal (stage ∷ stages) = IsValidStage theory store goal stage × AreValidStages theory store goal stages

-- the proof is sound as it stands, and at each stage that is kept
pub record IsValidProof (theory : Theory) (store : Store) (proof : Proof) : Type 0 where
  pub settable : IsSettable theory proof.goal
  pub stage : IsValidStage theory store proof.goal proof.stage
  pub kept : AreValidStages theory store proof.goal proof.kept

abbrev pub IsValidIfAny : Theory → Store → Option Proof → Type 0
IsValidIfAny theory store found = IfSome found (IsValidProof theory store)

-- so is the proof of a stack, and what can be undone
pub record IsValidStack (theory : Theory) (store : Store) (stack : Stack) : Type 0 where
  pub proof : IsValidIfAny theory store stack.proof
  pub before : IsValidIfAny theory store stack.before

-- ---- laws

-- a replay, where room is a test on justifications
abbrev pub Replays : Theory → Store → (Justification → Bool) → Justification → Result Theorem Fault → Type 0
Replays theory store room justification answer = AnswersReplay (room justification) (sequent_of theory (sequents_in store) [] justification) answer

-- what is set is sound
abbrev pub SetIsValid : Type 0
SetIsValid = (theory : Theory) (store : Store) (term : NamedTerm) (proof : Proof) → set_outcome theory term ≡ Ok proof → IsValidProof theory store proof

-- taking back keeps a proof sound
abbrev pub BackIsValid : Type 0
BackIsValid =
    (theory : Theory) (store : Store) (found : Option Proof) (proof : Proof) → IsValidIfAny theory store found
    → back_outcome found ≡ Ok proof → IsValidProof theory store proof

-- so does rotating
abbrev pub RotateIsValid : Type 0
RotateIsValid =
    (theory : Theory) (store : Store) (found : Option Proof) (n : ℕ) (proof : Proof) → IsValidIfAny theory store found
    → rotate_outcome found n ≡ Ok proof → IsValidProof theory store proof

-- so does refining the first goal by a valid step whose goals are known
abbrev pub ExpandIsValid : Type 0
ExpandIsValid =
    (theory : Theory) (store : Store) (room : Justification → Bool) (found : Option Proof) (focus : Focus) (refinement : Step) (proof : Proof)
    → IsValidIfAny theory store found → focus_outcome found ≡ Ok focus → IsGoodStep theory store focus.goal refinement
    → IsExpanded theory (Replays theory store room) focus refinement (Ok proof) → IsValidProof theory store proof

-- and then a refusal is for memory or size alone
abbrev pub ExpandFailsForSize : Type 0
ExpandFailsForSize =
    (theory : Theory) (store : Store) (room : Justification → Bool) (found : Option Proof) (focus : Focus) (refinement : Step) (fault : Fault)
    → IsValidIfAny theory store found → focus_outcome found ≡ Ok focus → IsGoodStep theory store focus.goal refinement
    → IsExpanded theory (Replays theory store room) focus refinement (Err fault) → (fault ≡ Memory) ⊎ (fault ≡ TooLarge)

-- undoing keeps a stack sound
abbrev pub RevertIsValid : Type 0
RevertIsValid = (theory : Theory) (store : Store) (stack : Stack) → IsValidStack theory store stack → IsValidStack theory store (reverted stack)

-- what is sound stays so while the theory and the store grow
abbrev pub ProofsStayValid : Type 0
ProofsStayValid =
    (earlier now : Theory) (old new : Store) → IsEarlier earlier now → IsLegal now → IsLaterStore (sequents_in old) (sequents_in new)
    → (proof : Proof) → IsValidProof earlier old proof → IsValidProof now new proof
