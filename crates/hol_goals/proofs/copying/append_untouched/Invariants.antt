use Rattle.std.proofs.Common.{◌≡◌, ◌++◌, map, take}
use Rattle.hol_just.specs.Steps.{goals_of, step_of}
use Rattle.hol_model.specs.Goals.GoalStates.{untouched}
use Rattle.hol_goals.proofs.copying.append_untouched.Given as goal

abbrev pub invariant-loop-goal : goal.invariant-loop-goal
invariant-loop-goal l = map step_of l.steps.items ≡ map step_of l.fn.steps.items ++ map untouched (goals_of (take l.goal-index l.goals))
