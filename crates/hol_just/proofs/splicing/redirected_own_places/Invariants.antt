use Rattle.std.proofs.Common.{◌≡◌, ◌++◌, map, take, drop}
use Rattle.std.specs.Prelude.{slice_index}
use Rattle.hol_just.proofs.splicing.redirected_own_places.Given as goal

abbrev pub invariant-loop-i : goal.invariant-loop-i
invariant-loop-i l = l.cites.items ≡ map (slice_index l.places) (take l.i l.fn.cites.items) ++ drop l.i l.fn.cites.items
