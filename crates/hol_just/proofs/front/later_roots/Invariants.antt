use Rattle.std.proofs.Common.{◌≡◌, ◌++◌, drop}
use Rattle.hol_just.proofs.front.later_roots.Given as goal

abbrev pub invariant-loop-place : goal.invariant-loop-place
invariant-loop-place l = l.later.items ++ drop l.place l.roots ≡ drop l.count l.roots
