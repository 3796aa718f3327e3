use Rattle.std.proofs.Common.{◌≡◌, take}
use Rattle.hol_just.proofs.goal.Goal.with_concl.Given as goal

abbrev pub invariant-loop-assumption : goal.invariant-loop-assumption
invariant-loop-assumption l = l.asms.items ≡ take l.assumption-index l.assumption-items
