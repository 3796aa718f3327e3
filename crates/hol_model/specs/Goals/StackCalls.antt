-- What the calls on a stack of goals answer.
use Rattle.std.specs.Prelude.{◌≡◌, ◌⊎◌, ℕ, ◌<◌, List, length, Result, Ok, Err}
use Rattle.hol_model.specs.declared.fault.Fault.{Fault}
use Rattle.hol_model.specs.declared.fault.Fault.TheVariants.{Memory, StepLimit}
use Rattle.hol_model.specs.Kernel.Theorem.{Theorem}
use Rattle.hol_model.specs.Goals.GoalStates.{Stage, underway, proved, Proof, Expansion, Stack, changed_stack}

-- The call changes the stack as the outcome says, or refuses and changes nothing.
abbrev pub Changes : Result (Unit {0}) Fault → Result Proof Fault → (Proof → Stack) → Stack → Stack → Type 0
Changes (Ok x) outcome change old new = (proof : Proof) × (outcome ≡ Ok proof) × (new ≡ change proof)
Changes (Err fault) outcome change old new = ((fault ≡ Memory) ⊎ (outcome ≡ Err fault)) × (new ≡ old)

-- what is told of the stage that an expansion reaches: how many goals are open, or the theorem
pub data Told : Type 0 where
  open_goals_left : ℕ → Told
  no_subgoals : Theorem → Told

abbrev pub Tells : Told → Stage → Type 0
Tells (open_goals_left count) (underway step) = (length step.goals ≡ count) × (0 < count)
Tells (open_goals_left count) (proved theorem) = ⊥
Tells (no_subgoals theorem) (underway step) = ⊥
Tells (no_subgoals theorem) (proved closed) = closed ≡ theorem

-- The expansion reaches a stage of which it tells, and leaves these lemmas and so many steps.
pub record Expands (may : Result Expansion Fault → Type 0) (old new : Stack) (lemmas : List Theorem) (left : ℕ) (told : Told) : Type 0 where
  pub proof : Proof
  pub reached : may (Ok (record { proof = proof; lemmas = lemmas; left = left }))
  pub changed : new ≡ changed_stack old proof
  pub tells : Tells told proof.stage

-- It is refused, and changes nothing of the stack; for want of steps only where none is left.
pub record RefusesExpansion (may : Result Expansion Fault → Type 0) (old new : Stack) (left : ℕ) (fault : Fault) : Type 0 where
  pub refused : (fault ≡ Memory) ⊎ may (Err fault)
  pub unchanged : new ≡ old
  pub stops : fault ≡ StepLimit → left ≡ 0
