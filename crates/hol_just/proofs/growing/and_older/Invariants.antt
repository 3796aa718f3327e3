use Rattle.std.proofs.Common.{◌≡◌, ◌∷◌, map, take}
use Rattle.hol_just.specs.Portions.{flat_portion_of}
use Rattle.hol_just.proofs.growing.and_older.Given as goal

abbrev pub invariant-loop-portion : goal.invariant-loop-portion
invariant-loop-portion l = map flat_portion_of l.all.items ≡ flat_portion_of l.fn.portion ∷ map flat_portion_of (take l.portion-index l.older)
