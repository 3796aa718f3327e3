use Rattle.std.proofs.Common.{◌∙◌, sym}
use Rattle.hol_model.specs.Terms.HolType.{type_put}
use Rattle.hol_model.specs.Terms.NamedTerm.{constant}
use Rattle.hol_model.proofs.Tests.{same_leaf}
use Rattle.hol_subst.proofs.made_leaves.is_constant_after.Goals as goal

pub returns-in-Constant : goal.returns-in-Constant
returns-in-Constant c = λ passed.
    sym c.in-Constant.ensures.value
    ∙ same_leaf constant c.in-Constant.new_name.now c.args.name.now c.in-Constant.new_type.now (type_put c.args.types.now c.args.ty.now) c.becomes.result c.becomes.ensures passed
