use Rattle.std.proofs.Common.{[], arith}
use Rattle.hol_logtext.proofs.ListLemmas.{pair_read, pair_cut}
use Rattle.hol_logtext.proofs.arguments.pairs.Goals as goal

pub loop-at-preserved : goal.loop-at-preserved
loop-at-preserved c =
    let pushed = c.in_ok-push.ensures.items in
    let read = pair_read c.loop-at.pairs.items c.in-Some.pair c.args.fields.now c.loop-at.at _ c.loop-at-test.true c.loop-at.invariant.1 c.in-Some.ensures in
    (omega (arith, c.loop-at-test.true), rw pushed read)

pub returns-else-at-fields : goal.returns-else-at-fields
returns-else-at-fields c =
    pair_cut c.loop-at.pairs.items c.args.fields.now c.loop-at.at (record { ref_ptr = (0, 0); now = [] }) (omega (arith, c.loop-at.invariant.0, c.if-at-fields.false))
    (omega (arith, c.loop-at-test.false)) c.loop-at.invariant.1
