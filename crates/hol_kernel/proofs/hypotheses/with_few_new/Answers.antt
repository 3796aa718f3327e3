use Rattle.std.proofs.Common.{◌<◌, length, arith}
use Rattle.hol_kernel.proofs.PlaceLemmas.{new_put-more}
use Rattle.hol_kernel.proofs.hypotheses.with_few_new.Goals as goal

pub loop-new-preserved : goal.loop-new-preserved
loop-new-preserved c =
    let within : c.loop-new.new-index < length c.args.second.now = omega arith in (
      c.in_ok-rest.ensures.ok.ordered,
      new_put-more c.args.first.now c.args.second.now c.loop-new.new-index c.loop-new.all.items c.loop-new.rest.now c.new-item.result c.put_new.new.all.items c.in_ok-rest.rest.now
          c.requires.second_ordered within c.new-item.is c.loop-new.invariant.1 c.in_ok-rest.ensures.ok,
    )
