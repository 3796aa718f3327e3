use Rattle.std.proofs.Common.{◌∙◌, sym}
use Rattle.hol_model.specs.Terms.HolType.{type_put}
use Rattle.hol_model.specs.Terms.NamedTerm.{variable}
use Rattle.hol_model.proofs.Tests.{same_leaf}
use Rattle.hol_subst.proofs.made_leaves.is_variable_after.Goals as goal

pub returns-in-Variable : goal.returns-in-Variable
returns-in-Variable c = λ passed.
    sym c.in-Variable.ensures.value
    ∙ same_leaf variable c.in-Variable.new_name.now c.args.name.now c.in-Variable.new_type.now (type_put c.args.types.now c.args.ty.now) c.becomes.result c.becomes.ensures passed
