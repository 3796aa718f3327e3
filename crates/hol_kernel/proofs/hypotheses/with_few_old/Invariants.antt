use Rattle.std.proofs.Common.{◌≡◌, ◌++◌, drop}
use Rattle.hol_model.specs.Kernel.Theorem.{AreOrdered, with_hypotheses}
use Rattle.hol_kernel.proofs.hypotheses.with_few_old.Given as goal

abbrev pub invariant-loop-old : goal.invariant-loop-old
invariant-loop-old l = AreOrdered l.rest × (l.all.items ++ with_hypotheses (drop l.old-index l.first) l.rest ≡ with_hypotheses l.first l.second)
