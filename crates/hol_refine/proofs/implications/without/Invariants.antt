use Rattle.std.proofs.Common.{◌≡◌, take}
use Rattle.hol_model.specs.Kernel.Theorem as spec
use Rattle.hol_refine.proofs.implications.without.Given as goal

abbrev pub invariant-loop-hypothesis : goal.invariant-loop-hypothesis
invariant-loop-hypothesis l = l.others.items ≡ spec.without_hypothesis l.p (take l.hypothesis-index l.terms)
