use Rattle.std.proofs.Common.{◌≡◌, ◌-◌, map}
use Rattle.hol_just.specs.Steps.{step_of}
use Rattle.hol_goals.specs.Turning.{numbered_from}
use Rattle.hol_goals.proofs.turning.numbered_steps.Given as goal

abbrev pub invariant-loop-number : goal.invariant-loop-number
invariant-loop-number l = map step_of l.steps.items ≡ numbered_from l.fn.first (l.number - l.fn.first)
