use Rattle.std.proofs.Common.{sym, ◌∙◌}
use Rattle.hol_subst.specs.VariableTypes.{known_table}
use Rattle.hol_subst.proofs.Variables.{no_other_with}
use Rattle.hol_subst.proofs.known_variables.+has_other_instance.Goals as goal

pub returns-else-becomes_too : goal.returns-else-becomes_too
returns-else-becomes_too t c is =
    rw c.in-AndBound.is
    (no_other_with (known_table c.in-AndBound.outer.now) c.in-AndBound.other.now c.in-AndBound.s.now c.args.types.now c.args.name.now c.args.ty.now
    c.args.new_type.now (sym c.becomes_too.ensures ∙ c.if-becomes_too.false) (c.has_other_instance-else-becomes_too.ensures is))
