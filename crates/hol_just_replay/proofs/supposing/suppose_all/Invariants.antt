use Rattle.std.proofs.Common.{drop, map}
use Rattle.hol_model.specs.Terms.Nameless.{image}
use Rattle.hol_just.specs.Steps.{goals_of}
use Rattle.hol_just_replay.specs.Accepting.{IsSupposing}
use Rattle.hol_just_replay.proofs.supposing.suppose_all.Given as goal

abbrev pub invariant-loop-goal : goal.invariant-loop-goal
invariant-loop-goal l =
    IsSupposing l.fn.recorder l.recorder (map image l.falsity.theorem.hypotheses) (goals_of l.goals) (goals_of (drop l.goal-index l.goals)) l.theorems.items
