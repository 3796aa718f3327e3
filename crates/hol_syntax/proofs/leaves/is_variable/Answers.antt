use Rattle.std.proofs.Common.{◌∙◌, sym}
use Rattle.hol_model.specs.Terms.NamedTerm.{variable}
use Rattle.hol_model.proofs.Tests.{same_leaf}
use Rattle.hol_syntax.proofs.leaves.is_variable.Goals as goal

pub returns-in-Variable : goal.returns-in-Variable
returns-in-Variable c = λ passed.
    sym c.in-Variable.ensures.value
    ∙ sym (same_leaf variable c.args.name.now c.in-Variable.other.now c.args.ty.now c.in-Variable.other_ty.now c.same_variable.result c.same_variable.ensures passed)
