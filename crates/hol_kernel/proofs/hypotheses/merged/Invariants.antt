use Rattle.std.proofs.Common.{length, ◌-◌, ◌+◌}
use Rattle.hol_kernel.proofs.OrderLemmas.{IsMerged}
use Rattle.hol_kernel.proofs.hypotheses.merged.Given as goal

abbrev pub invariant-loop-left : goal.invariant-loop-left
invariant-loop-left l = IsMerged l.first l.second l.left l.right l.all.items

abbrev pub decreases-loop-left : goal.decreases-loop-left
decreases-loop-left l = (length l.first - l.left) + (length l.second - l.right)
