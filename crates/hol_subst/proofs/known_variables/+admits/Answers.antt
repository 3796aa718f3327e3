use Rattle.std.proofs.Common.{sym, ◌∙◌}
use Rattle.hol_subst.specs.VariableTypes.{known_table}
use Rattle.hol_subst.proofs.Variables.{admits_here, admits_later}
use Rattle.hol_subst.proofs.known_variables.+admits.Goals as goal

pub returns-then-same_variable : goal.returns-then-same_variable
returns-then-same_variable t c =
    rw c.in-AndBound.is
    (c.if-same_variable.true
    ∙ sym (admits_here (known_table c.in-AndBound.outer.now) c.in-AndBound.other.now c.in-AndBound.s.now c.args.name.now c.args.ty.now
    (sym c.same_variable.ensures ∙ c.if-same_variable.true)))

pub returns-else-same_variable : goal.returns-else-same_variable
returns-else-same_variable t c =
    rw c.in-AndBound.is
    (c.admits-else-same_variable.ensures
    ∙ admits_later (known_table c.in-AndBound.outer.now) c.in-AndBound.other.now c.in-AndBound.s.now c.args.name.now c.args.ty.now
    (sym c.same_variable.ensures ∙ c.if-same_variable.false))
