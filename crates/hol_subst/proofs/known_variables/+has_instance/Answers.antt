use Rattle.std.proofs.Common.{sym, ◌∙◌}
use Rattle.hol_subst.specs.VariableTypes.{known_table}
use Rattle.hol_subst.proofs.Variables.{none_with}
use Rattle.hol_subst.proofs.known_variables.+has_instance.Goals as goal

pub returns-else-becomes : goal.returns-else-becomes
returns-else-becomes t c is =
    rw c.in-AndBound.is
    (none_with (known_table c.in-AndBound.outer.now) c.in-AndBound.other.now c.in-AndBound.s.now c.args.types.now c.args.name.now c.args.ty.now
    (sym c.becomes.ensures ∙ c.if-becomes.false) (c.has_instance-else-becomes.ensures is))
