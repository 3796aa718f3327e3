use Rattle.std.proofs.Common.{◌≡◌, map, drop}
use Rattle.hol_just.specs.Portions.{flat_portion_of, bare_front, front_before_all}
use Rattle.hol_just.specs.Growing.{front_of}
use Rattle.hol_just.proofs.front.Front.before_all.Given as goal

abbrev pub invariant-loop-portion : goal.invariant-loop-portion
invariant-loop-portion l = front_before_all (map flat_portion_of (drop l.portion-index l.portions)) (front_of l.front) ≡ front_before_all (map flat_portion_of l.portions) bare_front
