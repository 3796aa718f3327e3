use Rattle.std.proofs.Common.{length, ◌-◌, ◌+◌}
use Rattle.hol_check_rules.proofs.OrderLemmas.{IsMerged}
use Rattle.hol_check_rules.proofs.hypotheses.union.Given as goal

abbrev pub invariant-loop-left : goal.invariant-loop-left
invariant-loop-left l = IsMerged l.terms.terms l.first l.second l.left l.right l.all.items

abbrev pub decreases-loop-left : goal.decreases-loop-left
decreases-loop-left l = (length l.first - l.left) + (length l.second - l.right)
