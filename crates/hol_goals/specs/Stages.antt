-- What the stages of the code stand for, and what a stack of them stands for.
use Rattle.std.specs.Prelude.{◌≡◌, ◌<◌, ℕ, List, [], ◌∷◌, length, map, take, drop, Option, Some, None, Result, Ok, Err}
use Rattle.std.proofs.Common.{Bor}
use Rattle.hol_model.specs.declared.fault.Fault.{Fault}
use Rattle.hol_model.specs.Kernel.Theorem.{Theorem}
use Rattle.hol_journal.specs.Journal.{Recorded}
use Rattle.hol_model.specs.declared.limits.TheConstants.{KEPT_EXPANSIONS_LIMIT}
use Rattle.hol_model.specs.Goals.Goals.{Goal}
use Rattle.hol_model.specs.Goals.ValidSteps.{Step}
use Rattle.hol_just.specs.Steps.{goal_of, goals_of}
use Rattle.hol_just.specs.Growing.{grown_tree}
use Rattle.hol_model.specs.Goals.GoalStates as states
use Rattle.hol_goals.specs.declared.stage.GoalState.{GoalState}
use Rattle.hol_goals.specs.declared.stage.Opening.{Opening}
use Rattle.hol_goals.specs.declared.stage.Stage.{Stage}
use Rattle.hol_goals.specs.declared.stage.Stage.TheVariants.{Underway, Proved}
use Rattle.hol_goals.specs.declared.attempt.Change.{Change}
use Rattle.hol_goals.specs.declared.attempt.Change.TheVariants.{Nothing, Forward, Back}
use Rattle.hol_goals.specs.declared.attempt.Attempt.{Attempt}
use Rattle.hol_goals.specs.declared.stack.Stack.{Stack}

abbrev pub state_of : GoalState → Step
state_of state = record { goals = goals_of state.goals.items; justification = grown_tree state.just }

abbrev pub opening_of : Opening → Step
opening_of opening = record { goals = goals_of opening.goals.items; justification = grown_tree opening.just }

abbrev pub stage_of : Stage → states.Stage
stage_of (Underway opening) = states.underway (opening_of opening)
stage_of (Proved made) = states.proved made.theorem

-- a proof that is under way has goals
abbrev pub HasGoals : states.Stage → Type 0
HasGoals (states.underway step) = 0 < length step.goals
HasGoals (states.proved theorem) = Unit {0}

-- the proof at the first of its stages, the newest first
abbrev pub proof_at : Goal → List states.Stage → Option states.Proof
proof_at goal [] = None
proof_at goal (stage ∷ kept) = Some (record { goal = goal; stage = stage; kept = take KEPT_EXPANSIONS_LIMIT kept })

-- the stages that are not taken back
abbrev pub shown : {A : Type 0} → Change → List A → List A
shown Back stages = drop 1 stages
shown _ stages = stages

-- how many are taken back
abbrev pub taken : Change → ℕ
taken Back = 1
taken _ = 0

-- the proof before the last change, where that can be undone
abbrev pub before_change : Change → Goal → List states.Stage → Option states.Proof
before_change Nothing goal stages = None
before_change Forward goal stages = proof_at goal (drop 1 stages)
before_change Back goal stages = proof_at goal stages

abbrev pub stack_at : Change → Goal → List states.Stage → states.Stack
stack_at change goal stages = record { proof = proof_at goal (shown change stages); before = before_change change goal stages }

abbrev pub attempt_of : Attempt → states.Stack
attempt_of attempt = stack_at attempt.change (goal_of attempt.goal) (map stage_of attempt.stages.items)

abbrev pub if_attempted : Option Attempt → states.Stack
if_attempted None = states.empty_stack
if_attempted (Some attempt) = attempt_of attempt

abbrev pub stack_of : Stack → states.Stack
stack_of stack = if_attempted stack.attempt

-- the stack is one stage further, where a goal was set
abbrev pub GoesOn : states.Stack → states.Stack → states.Stage → Type 0
GoesOn old new stage = (proof : states.Proof) → old.proof ≡ Some proof → new ≡ states.changed_stack old (states.advanced proof stage)

-- the theorem that a call lends
abbrev pub theorem_told : Result (Bor Recorded) Fault → Result Theorem Fault
theorem_told (Ok made) = Ok made.now.theorem
theorem_told (Err fault) = Err fault
