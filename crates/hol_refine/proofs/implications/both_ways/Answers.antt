use Rattle.std.proofs.lemmas.Result.{err_from_is_err_and}
use Rattle.hol_just.specs.Steps.{goal_of}
use Rattle.hol_refine.specs.TableAnswers.{step_in}
use Rattle.hol_refine.specs.Rows.{by_both_ways}
use Rattle.hol_refine.proofs.Fitting.{both_ways-first, both_ways-second, both_ways-made}
use Rattle.hol_refine.proofs.implications.both_ways.Goals as goal

pub returns-in_err-there : goal.returns-in_err-there
returns-in_err-there c =
    let p = err_from_is_err_and c.from_residual.result c.from_residual.ensures.1 in
    rw (p.1, p.2)
    (both_ways-first (goal_of c.args.goal.now) c.args.left.now c.args.right.now c.in_err-there.field-0.0 c.requires.fits (c.in_err-there.ensures c.requires.left c.requires.right))

pub returns-in_err-back : goal.returns-in_err-back
returns-in_err-back c =
    let p = err_from_is_err_and c.from_residual-in_err-back.result c.from_residual-in_err-back.ensures.1 in
    rw (p.1, p.2)
    (both_ways-second (goal_of c.args.goal.now) c.args.left.now c.args.right.now c.in_err-back.field-0.0 (c.in_err-back.ensures c.requires.right c.requires.left))

pub returns : goal.returns
returns c =
    let there = c.in_ok-there.ensures c.requires.left c.requires.right in
    let back = c.in_ok-back.ensures c.requires.right c.requires.left in
    both_ways-made (goal_of c.args.goal.now) c.args.left.now c.args.right.now c.in_ok-there.there c.in_ok-back.back (step_in c.to_targets.result) back.0 there.1 back.1
    (c.to_targets.ensures by_both_ways c.in_ok-just.ensures)
