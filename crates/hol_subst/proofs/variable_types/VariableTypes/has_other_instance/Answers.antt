use Rattle.std.proofs.Common.{sym, ◌∙◌}
use Rattle.hol_subst.specs.VariableTypes.{table_of}
use Rattle.hol_subst.proofs.Variables.{becomes_no_other}
use Rattle.hol_subst.proofs.variable_types.VariableTypes.has_other_instance.Goals as goal

pub returns-in-Some : goal.returns-in-Some
returns-in-Some c is =
    becomes_no_other c.in-Some.known.now (table_of c.args.self.now c.args.name.now) c.args.types.now c.args.ty.now c.args.new_type.now c.in-Some.ensures
    (sym c.another_becomes.ensures ∙ is)
