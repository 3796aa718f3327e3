use Rattle.std.proofs.Common.{◌≡◌, ◌++◌, drop}
use Rattle.hol_model.specs.Kernel.Theorem.{AreOrdered, with_hypotheses}
use Rattle.hol_kernel.proofs.hypotheses.with_few_new.Given as goal

abbrev pub invariant-loop-new : goal.invariant-loop-new
invariant-loop-new l = AreOrdered l.rest × (l.all.items ++ with_hypotheses l.rest (drop l.new-index l.second) ≡ with_hypotheses l.first l.second)
