use Rattle.std.proofs.Common.{◌<◌, length, arith}
use Rattle.hol_kernel.proofs.OrderLemmas.{with_hypothesis-ordered}
use Rattle.hol_kernel.proofs.PlaceLemmas.{added-more}
use Rattle.hol_kernel.proofs.hypotheses.in_order.Goals as goal

pub loop-new-preserved : goal.loop-new-preserved
loop-new-preserved c =
    let within : c.loop-new.new-index < length c.args.terms.now = omega arith in (
      rw c.in_ok-add_hypothesis.ensures.ok (with_hypothesis-ordered c.loop-new.all.items c.new-item.result c.loop-new.invariant.0),
      added-more c.args.terms.now c.loop-new.new-index c.loop-new.all.items c.new-item.result c.add_hypothesis.new.hypotheses.items within c.new-item.is c.loop-new.invariant.1
          c.in_ok-add_hypothesis.ensures.ok,
    )
