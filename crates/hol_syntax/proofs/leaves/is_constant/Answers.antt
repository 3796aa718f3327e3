use Rattle.std.proofs.Common.{◌∙◌, sym}
use Rattle.hol_model.specs.Terms.NamedTerm.{constant}
use Rattle.hol_model.proofs.Tests.{same_leaf}
use Rattle.hol_syntax.proofs.leaves.is_constant.Goals as goal

pub returns-in-Constant : goal.returns-in-Constant
returns-in-Constant c = λ passed.
    sym c.in-Constant.ensures.value
    ∙ sym (same_leaf constant c.args.name.now c.in-Constant.other.now c.args.ty.now c.in-Constant.other_ty.now c.same_variable.result c.same_variable.ensures passed)
