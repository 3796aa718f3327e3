use Rattle.std.proofs.Common.{map, ap, ◌∙◌}
use Rattle.hol_tactic_exprs.specs.Expressions.{conversion_of}
use Rattle.hol_tactic_exprs.proofs.Rows.{then_again, or_else_again}
use Rattle.hol_tactic_exprs.proofs.«+copying_conv».Goals as goal

pub conv::Conv::copy-returns-in_ok-conv_copies-in-Then-clause-ok : goal.conv::Conv::copy-returns-in_ok-conv_copies-in-Then-clause-ok
conv::Conv::copy-returns-in_ok-conv_copies-in-Then-clause-ok t c =
    then_again _ _ _ _ c.thenc.result c.in-Then.is
    (c.in_ok-copy-in-Then.ensures.ok ∙ ap conversion_of c.deref.ensures)
    (c.in_ok-conv_copies-in-Then.ensures.ok ∙ ap (map conversion_of) c.deref-in-Then.ensures.value)
    c.thenc.ensures.ok

pub conv::Conv::copy-returns-in_ok-conv_copies-in-OrElse-clause-ok : goal.conv::Conv::copy-returns-in_ok-conv_copies-in-OrElse-clause-ok
conv::Conv::copy-returns-in_ok-conv_copies-in-OrElse-clause-ok t c =
    or_else_again _ _ _ _ c.orelsec.result c.in-OrElse.is
    (c.in_ok-copy-in-OrElse.ensures.ok ∙ ap conversion_of c.deref-in-OrElse.ensures)
    (c.in_ok-conv_copies-in-OrElse.ensures.ok ∙ ap (map conversion_of) c.deref-in-OrElse-2.ensures.value)
    c.orelsec.ensures.ok
