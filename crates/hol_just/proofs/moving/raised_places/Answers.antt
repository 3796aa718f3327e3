use Rattle.std.proofs.Common.{◌+◌, arith}
use Rattle.std.proofs.lemmas.List.Edits.{map_over_more}
use Rattle.hol_just.proofs.moving.raised_places.Goals as goal

pub loop-i-preserved : goal.loop-i-preserved
loop-i-preserved c =
    rw c.in_ok-places.ensures.ok
    (map_over_more (λ place. c.args.by + place) c.args.places.items c.loop-i.places.items c.loop-i.i _ (omega arith) c.loop-i.invariant c.index.ensures)
