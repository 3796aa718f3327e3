use Rattle.std.proofs.Common.{arith}
use Rattle.std.specs.Prelude.{slice_index}
use Rattle.std.proofs.lemmas.List.Edits.{map_over_more}
use Rattle.hol_just.proofs.splicing.redirected_own_places.Goals as goal

pub loop-i-preserved : goal.loop-i-preserved
loop-i-preserved c =
    rw c.number_at.ensures
    (map_over_more (slice_index c.args.places.now) c.args.cites.items c.loop-i.cites.items c.loop-i.i _ (omega arith) c.loop-i.invariant c.index.ensures)
