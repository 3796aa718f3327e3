use Rattle.std.proofs.Common.{◌≡◌, take}
use Rattle.hol_just.specs.Steps.{goals_of}
use Rattle.hol_just.proofs.goal.Step.copy.Given as goal

abbrev pub invariant-loop-goal : goal.invariant-loop-goal
invariant-loop-goal l = goals_of l.goals.items ≡ goals_of (take l.goal-index l.goal-items)
