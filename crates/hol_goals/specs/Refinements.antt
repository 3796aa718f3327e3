-- What the first open goal is, and what refining it answers.
use Rattle.std.specs.Prelude.{◌≡◌, ◌⊎◌, true, Result, Ok, Err}
use Rattle.std.proofs.Common.{Bor}
use Rattle.hol_model.specs.declared.fault.Fault.{Fault}
use Rattle.hol_model.specs.declared.fault.Fault.TheVariants.{Memory, TooLarge}
use Rattle.hol_model.specs.Goals.Goals.{Goal}
use Rattle.hol_model.specs.Goals.ValidSteps.{Step}
use Rattle.hol_just.specs.declared.goal.Goal as code_goal
use Rattle.hol_just.specs.Steps.{goal_of, IsTooDeep}
use Rattle.hol_just.specs.Growing.{grown_tree}
use Rattle.hol_model.specs.Goals.GoalStates.{Focus, expanded}
use Rattle.hol_goals.specs.declared.stage.GoalState.{GoalState}
use Rattle.hol_goals.specs.Stages.{state_of}
use Rattle.hol_model.specs.Goals.Replays.{is_within_depth}

-- the goal that a call lends
abbrev pub goal_told : Result (Bor code_goal.Goal) Fault → Result Goal Fault
goal_told (Ok goal) = Ok (goal_of goal.now)
goal_told (Err fault) = Err fault

abbrev pub goal_in_focus : Result Focus Fault → Result Goal Fault
goal_in_focus (Ok focus) = Ok focus.goal
goal_in_focus (Err fault) = Err fault

-- the refined proof is too deep
pub record IsTooDeepAt (found : Result Focus Fault) (refinement : Step) (fault : Fault) : Type 0 where
  pub focus : Focus
  pub is : found ≡ Ok focus
  pub large : fault ≡ TooLarge
  pub deep : IsTooDeep (expanded focus refinement).justification

-- the proof whose first goal is refined; the refusal where no goal is open, or where it is too deep
abbrev pub Refines : Result Focus Fault → Step → Result GoalState Fault → Type 0
Refines found refinement (Ok state) = (focus : Focus) × (found ≡ Ok focus) × (state_of state ≡ expanded focus refinement) × (is_within_depth (grown_tree state.just) ≡ true)
Refines found refinement (Err fault) = (fault ≡ Memory) ⊎ ((found ≡ Err fault) ⊎ IsTooDeepAt found refinement fault)
