use Rattle.std.proofs.Common.{sym, ◌∙◌}
use Rattle.hol_refine.proofs.Fitting.{bool-typed, implication-fits}
use Rattle.hol_refine.proofs.implications.eq_tac.Goals as goal

pub both_ways-requires-clause-left : goal.both_ways-requires-clause-left
both_ways-requires-clause-left c = bool-typed c.in-Some.sides.left.now c.ty.result.now c.ty.ensures (sym c.is_bool.ensures ∙ c.if-not-is_bool.false)

pub both_ways-requires-clause-right : goal.both_ways-requires-clause-right
both_ways-requires-clause-right c =
    c.requires.sides c.in-Some.sides.left.now c.in-Some.sides.right.now (sym c.in-Some.ensures.sides)
    (bool-typed c.in-Some.sides.left.now c.ty.result.now c.ty.ensures (sym c.is_bool.ensures ∙ c.if-not-is_bool.false))

pub both_ways-requires-clause-fits : goal.both_ways-requires-clause-fits
both_ways-requires-clause-fits c =
    let left = bool-typed c.in-Some.sides.left.now c.ty.result.now c.ty.ensures (sym c.is_bool.ensures ∙ c.if-not-is_bool.false) in
    implication-fits c.in-Some.sides.left.now c.in-Some.sides.right.now c.args.goal.now.concl (sym c.in-Some.ensures.sides) c.requires.target left
    (c.requires.sides c.in-Some.sides.left.now c.in-Some.sides.right.now (sym c.in-Some.ensures.sides) left) c.well_formed-2.ensures.within_limits
