use Rattle.std.proofs.Common.{◌≡◌, ◌∷◌, take}
use Rattle.hol_just.proofs.front.and_later.Given as goal

abbrev pub invariant-loop-root : goal.invariant-loop-root
invariant-loop-root l = l.roots.items ≡ l.root ∷ take l.root-index l.later
