-- What refining the first open goal by a step makes of a stack.
use Rattle.std.specs.Prelude.{◌≡◌, ◌⊎◌, [], Result, Ok, Err}
use Rattle.hol_model.specs.declared.fault.Fault.{Fault}
use Rattle.hol_model.specs.declared.fault.Fault.TheVariants.{Memory}
use Rattle.hol_model.specs.Logic.Theory.{Theory}
use Rattle.hol_model.specs.Kernel.Theorem.{Theorem}
use Rattle.hol_model.specs.Goals.Goals.{Goal}
use Rattle.hol_model.specs.Goals.Justifications.{Justification}
use Rattle.hol_model.specs.Goals.ValidSteps.{Step}
use Rattle.hol_model.specs.Goals.Replays.{Store, IsReplay}
use Rattle.hol_model.specs.Kernel.Answers.{Is, Then}
use Rattle.hol_model.specs.Goals.GoalStates.{Stage, proved, Proof, Stack, Focus, focus_outcome, closing_outcome, IsExpanded, changed_stack}
use Rattle.hol_model.specs.Goals.StackCalls.{Told, open_goals_left, no_subgoals, Tells}
use Rattle.hol_goals.specs.declared.expanding.Expansion.{Expansion}
use Rattle.hol_goals.specs.declared.expanding.Expansion.TheVariants.{Open, NoSubgoals}
use Rattle.hol_goals.specs.Stages.{GoesOn}

abbrev pub told_of : Expansion → Told
told_of (Open count) = open_goals_left count
told_of (NoSubgoals made) = no_subgoals made.theorem

-- ---- closing

-- a replay of the justification without subgoals, whose theorem achieves the goal and has the goal's own term
abbrev pub IsProof : Theory → Store → Goal → Justification → Result Theorem Fault → Type 0
IsProof theory store goal justification = Then (IsReplay theory store [] justification) (λ theorem. Is (closing_outcome theory goal theorem))

-- the same, or there is no memory
abbrev pub Proves : Theory → Store → Goal → Justification → Result Theorem Fault → Type 0
Proves theory store goal justification (Ok theorem) = IsProof theory store goal justification (Ok theorem)
Proves theory store goal justification (Err fault) = (fault ≡ Memory) ⊎ IsProof theory store goal justification (Err fault)

-- ---- the next stage

-- the stack is one stage further, and that stage is told; or there is no memory, and it is as before
abbrev pub Reaches : Stack → Stack → Stage → Result Expansion Fault → Type 0
Reaches old new stage (Ok expansion) = GoesOn old new stage × Tells (told_of expansion) stage
Reaches old new stage (Err fault) = (fault ≡ Memory) × (new ≡ old)

-- the theorem of the goal is the next stage; or there is none, and the stack is as before
abbrev pub Finishes : Theory → Store → Goal → Justification → Stack → Stack → Result Expansion Fault → Type 0
Finishes theory store goal justification old new (Ok expansion) =
    (theorem : Theorem) × IsProof theory store goal justification (Ok theorem) × GoesOn old new (proved theorem) × Tells (told_of expansion) (proved theorem)
Finishes theory store goal justification old new (Err fault) = ((fault ≡ Memory) ⊎ IsProof theory store goal justification (Err fault)) × (new ≡ old)

-- the first open goal is refined by the step
pub record ExpandsBy (theory : Theory) (store : Store) (refinement : Step) (old new : Stack) (told : Told) : Type 0 where
  pub focus : Focus
  pub found : focus_outcome old.proof ≡ Ok focus
  pub proof : Proof
  pub expanded : IsExpanded theory (IsReplay theory store []) focus refinement (Ok proof)
  pub changed : new ≡ changed_stack old proof
  pub tells : Tells told proof.stage

-- it cannot be refined so
pub record FailsBy (theory : Theory) (store : Store) (refinement : Step) (old : Stack) (fault : Fault) : Type 0 where
  pub focus : Focus
  pub found : focus_outcome old.proof ≡ Ok focus
  pub fails : IsExpanded theory (IsReplay theory store []) focus refinement (Err fault)

-- the first open goal is refined by the step; or none is open, the refined proof is refused or there is no memory, and the
-- stack is as before
abbrev pub IsExpandedBy : Theory → Store → Step → Stack → Stack → Result Expansion Fault → Type 0
IsExpandedBy theory store refinement old new (Ok expansion) = ExpandsBy theory store refinement old new (told_of expansion)
IsExpandedBy theory store refinement old new (Err fault) =
    ((fault ≡ Memory) ⊎ ((focus_outcome old.proof ≡ Err fault) ⊎ FailsBy theory store refinement old fault)) × (new ≡ old)
