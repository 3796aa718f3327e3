use Rattle.std.proofs.Common.{arith}
use Rattle.hol_just.proofs.Depths.{greatest-drop}
use Rattle.hol_just.proofs.places.greatest_at.Goals as goal
use Rattle.hol_just.proofs.places.greatest_at.Goals.{then-greatest-number, else-greatest-number}

pub loop-place-preserved : goal.loop-place-preserved
loop-place-preserved c =
    let step = greatest-drop c.args.other c.args.numbers.now c.args.places.now c.loop-place.place-index c.loop-place-test.true in
    let number = c.number_at-number.ensures in
    let so_far = c.loop-place.invariant in
    elim c.if-greatest-number.branch [ then-greatest-number w ↦ omega (arith, step, number, so_far, w.greatest-is) | else-greatest-number w ↦ omega (arith, step, number, so_far, w.greatest-is) ]
