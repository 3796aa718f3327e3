use Rattle.std.proofs.Common.{◌≡◌, max, drop}
use Rattle.hol_just.specs.Depths.{greatest_at}
use Rattle.hol_just.proofs.places.greatest_at.Given as goal

abbrev pub invariant-loop-place : goal.invariant-loop-place
invariant-loop-place l = max l.greatest (greatest_at l.other l.numbers (drop l.place-index l.places)) ≡ greatest_at l.other l.numbers l.places
