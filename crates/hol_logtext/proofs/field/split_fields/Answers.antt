use Rattle.hol_logtext.proofs.SplitLemmas.{split_more, split_all}
use Rattle.hol_logtext.proofs.field.split_fields.Goals as goal

pub loop-field-preserved : goal.loop-field-preserved
loop-field-preserved c =
    let pushed = c.in_ok-push.ensures.items in
    let one = split_more c.loop-field.fields.items c.in-Some.field c.args.text.now c.loop-field.rest.now c.in-Some.behind.now c.loop-field.invariant c.in-Some.ensures in
    rw pushed one

pub returns : goal.returns
returns c =
    let pushed = c.in_ok-push-2.ensures.items in
    let all = split_all c.loop-field.fields.items c.loop-field.rest c.args.text.now c.loop-field.invariant c.in_default.ensures in
    rw pushed all
