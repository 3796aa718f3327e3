use Rattle.std.proofs.Common.{◌≡◌, ◌++◌, take}
use Rattle.hol_rewrite.proofs.instances.push_copies.Given as goal

abbrev pub invariant-loop-term : goal.invariant-loop-term
invariant-loop-term l = l.all.items ≡ l.initial.all.items ++ take l.term-index l.terms
