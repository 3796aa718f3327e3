-- What REPEAT keeps while it runs.
use Rattle.std.specs.Prelude.{◌≡◌, ◌⊎◌, ℕ, zero, suc, ◌+◌, ◌-◌, ◌^◌, min, nat_le, List, [], ◌∷◌, ◌++◌, length, map, Bool, true, false, Option, Some, None, reverse, Ok, Err}
use Rattle.hol_model.specs.declared.fault.Fault.{Fault}
use Rattle.hol_model.specs.declared.fault.Fault.TheVariants.{Memory, TooLarge}
use Rattle.hol_model.specs.declared.limits.TheConstants.{JUSTIFICATION_DEPTH_LIMIT}
use Rattle.hol_model.specs.Terms.NamedTerm.{NamedTerm}
use Rattle.hol_model.specs.Logic.Theory.{Theory}
use Rattle.hol_model.specs.Goals.Goals.{Goal}
use Rattle.hol_model.specs.Goals.ValidSteps.{Step}
use Rattle.hol_model.specs.Goals.Justifications.{Justification}
use Rattle.hol_model.specs.Goals.Replays.{Store, depth}
use Rattle.hol_model.specs.Refining.HostFunctions.{Host, HostConversions}
use Rattle.hol_model.specs.Refining.Conversions.{is_caught}
use Rattle.hol_model.specs.Refining.Combinators.{Tactic, repeat, Stage, at, Runs}
use Rattle.hol_tactic_exprs.specs.Expressions.{tactic_of}
use Rattle.hol_tactic_exprs.specs.declared.tac.Tac.{Tac}
use Rattle.hol_just.specs.Steps.{goal_of, goals_of, step_of, tree_of}
use Rattle.hol_just.specs.SubgoalDepths.{subgoal_depth}
use Rattle.hol_just.specs.declared.goal.Goal as code_goal
use Rattle.hol_host.specs.Host.{HostRefiners, host_of}
use Rattle.hol_combine.specs.declared.running.Once.{Once}
use Rattle.hol_combine.specs.declared.running.Once.TheVariants.{Refined, Stays, Refused}
use Rattle.hol_combine.specs.declared.frames.Frame as code

-- a step: its justification, the subgoals that are still to be refined, what refined those before them, and how many levels the
-- justification of the whole has above its own, none where it takes no part in that
pub record Frame : Type 0 where
  pub justification : Justification
  pub left : List Goal
  pub done : List Step
  pub above : Option ℕ

-- the first of the goals stands last
abbrev pub frame_of : code.Frame → Frame
frame_of frame = record { justification = tree_of frame.just; left = goals_of (reverse frame.goals.items); done = map step_of frame.done.items; above = frame.above }

-- the last on top
abbrev pub frames_of : List code.Frame → List Frame
frames_of frames = reverse (map frame_of frames)

abbrev pub begun : Option ℕ → Step → Frame
begun above step = record { justification = step.justification; left = step.goals; done = []; above = above }

abbrev pub with_done : Frame → Step → Frame
with_done frame step = record { justification = frame.justification; left = frame.left; done = frame.done ++ step ∷ []; above = frame.above }

-- a goal in front of those that are left
abbrev pub with_goal : Goal → Frame → Frame
with_goal goal frame = record { justification = frame.justification; left = goal ∷ frame.left; done = frame.done; above = frame.above }

-- the frame on top, and those below it
abbrev pub Popped : Option code.Frame → List Frame → List Frame → Type 0
Popped (Some frame) old new = old ≡ frame_of frame ∷ new
Popped None old new = old ≡ []

-- the first of the goals that are left, and the frame without it
abbrev pub Taken : Option code_goal.Goal → Frame → Frame → Type 0
Taken (Some goal) old new = old ≡ with_goal (goal_of goal) new
Taken None old new = (old.left ≡ []) × (new ≡ old)

-- ---- how deep the justification of the whole is

-- the sum, or the greatest number of the code
abbrev pub capped_sum : ℕ → ℕ → ℕ
capped_sum a b = min (a + b) (2 ^ 64 - 1)

-- the levels above what refines a subgoal, from those above a justification and the depth at which the subgoal stands in it
abbrev pub above_subgoal : Option ℕ → ℕ → Option ℕ
above_subgoal None depth = None
above_subgoal (Some above) zero = None
above_subgoal (Some above) (suc depth) = Some (capped_sum above depth)

-- the levels above what refines the next subgoal
abbrev pub next_above : Frame → Option ℕ
next_above frame = above_subgoal frame.above (subgoal_depth (length frame.done) frame.justification)

-- the levels above what refines the goal that waits for the frames
abbrev pub above_on : List Frame → Option ℕ
above_on [] = Some 0
above_on (frame ∷ frames) = next_above frame

-- so many levels more are within the limit
abbrev pub has_room : Option ℕ → ℕ → Bool
has_room None levels = true
has_room (Some above) levels = nat_le (above + levels) JUSTIFICATION_DEPTH_LIMIT

abbrev pub LacksRoom : Option ℕ → Step → Fault → Type 0
LacksRoom above step fault = (fault ≡ Memory) ⊎ ((fault ≡ TooLarge) × (has_room above (depth step.justification) ≡ false))

-- the refiner refines the goal, or REPEAT of it answers
abbrev pub RunsOnce : Theory → Host → Stage → Tactic → Goal → Once → Stage → Type 0
RunsOnce theory host before t goal (Refined step) after = Runs theory host before t goal (Ok (step_of step)) after
RunsOnce theory host before t goal (Stays step) after = Runs theory host before (repeat t) goal (Ok (step_of step)) after
RunsOnce theory host before t goal (Refused fault) after = Runs theory host before (repeat t) goal (Err fault) after × (is_caught fault ≡ false)

abbrev pub OnceRefines : HostRefiners → HostConversions → Theory → Store → ℕ → Tac NamedTerm → code_goal.Goal → Once → Store → ℕ → Type 0
OnceRefines refiners conversions theory before steps again goal once after left =
    RunsOnce theory (host_of refiners conversions) (at before steps) (tactic_of again) (goal_of goal) once (at after left)
