use Rattle.hol_subst.proofs.Putting.{named_variable}
use Rattle.hol_subst.proofs.rebuild.binder_of.Goals as goal

pub returns-in-Some : goal.returns-in-Some
returns-in-Some c =
    named_variable c.args.name.now c.args.ty.now c.in-Some.binder.now c.is_variable_named.result c.is_variable_named.ensures c.if-is_variable_named.true
