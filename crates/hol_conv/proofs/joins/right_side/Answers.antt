use Rattle.std.proofs.Common.{sym, ◌∙◌}
use Rattle.hol_conv.proofs.RightSides.{right-known}
use Rattle.hol_conv.proofs.joins.right_side.Goals as goal

pub returns-clause-known : goal.returns-clause-known
returns-clause-known c =
    let sides = c.in-Some.sides in
    right-known c.args.library.now.recorder.theory c.args.made.now.theorem.conclusion sides.relation.now sides.left.now sides.right.now c.ty-type.result.now
    (sym c.conclusion_of-conclusion.ensures.value ∙ c.in-Some.ensures.whole) c.conclusion_of-conclusion.ensures.formula c.ty-type.ensures
