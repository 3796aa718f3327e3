use Rattle.std.proofs.Common.{◌≡◌, ◌+◌, ◌++◌, map, take, drop}
use Rattle.hol_just.proofs.moving.raised_places.Given as goal

abbrev pub invariant-loop-i : goal.invariant-loop-i
invariant-loop-i l = l.places.items ≡ map (λ place. l.fn.by + place) (take l.i l.fn.places.items) ++ drop l.i l.fn.places.items
