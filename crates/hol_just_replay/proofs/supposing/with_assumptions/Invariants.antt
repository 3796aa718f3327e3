use Rattle.std.proofs.Common.{drop, map}
use Rattle.hol_model.specs.Terms.Nameless.{image}
use Rattle.hol_just_replay.specs.Accepting.{IsAssuming}
use Rattle.hol_just_replay.proofs.supposing.with_assumptions.Given as goal

abbrev pub invariant-loop-p : goal.invariant-loop-p
invariant-loop-p l =
    IsAssuming l.fn.recorder l.recorder (map image l.fn.theorem.theorem.hypotheses) (image l.fn.theorem.theorem.conclusion) l.assumptions (drop l.p-index l.assumptions) l.theorem
