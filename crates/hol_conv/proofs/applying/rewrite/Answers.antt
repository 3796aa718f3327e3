use Rattle.std.proofs.Common.{ap, sym}
use Rattle.std.proofs.lemmas.Result.{err_from_is_err_and}
use Rattle.hol_model.specs.Refining.Conversions.{Conversion, rules_conv}
use Rattle.hol_prelude_derivations.specs.Derivations.{theorems}
use Rattle.hol_conv.proofs.Making.{makes_nothing}
use Rattle.hol_conv.specs.Leaves.{with_leaves}
use Rattle.hol_conv.proofs.Arms.{as-conv, starved-at}
use Rattle.hol_conv.proofs.applying.rewrite.Goals as goal

pub returns-in_err-choice-clause-outcome : goal.returns-in_err-choice-clause-outcome
returns-in_err-choice-clause-outcome g c =
    let p = err_from_is_err_and c.from_residual.result c.from_residual.ensures.1 in
    rw (p.1, p.2)
    (starved-at c.args.fuel.now.left c.in_err-choice.ensures.err)

pub returns-in_err-everywhere-clause-outcome : goal.returns-in_err-everywhere-clause-outcome
returns-in_err-everywhere-clause-outcome g c =
    let p = err_from_is_err_and c.from_residual-in_err-everywhere.result c.from_residual-in_err-everywhere.ensures.1 in
    rw (p.1, p.2)
    (starved-at c.args.fuel.now.left c.in_err-everywhere.ensures.err)

pub returns-in_err-everywhere-clause-makes : goal.returns-in_err-everywhere-clause-makes
returns-in_err-everywhere-clause-makes g c =
    let p = err_from_is_err_and c.from_residual-in_err-everywhere.result c.from_residual-in_err-everywhere.ensures.1 in
    rw (p.1, p.2) (makes_nothing c.args.library.now c.in_err-everywhere.field-0.0 c.requires.library)

pub returns-clause-outcome : goal.returns-clause-outcome
returns-clause-outcome g c =
    let rules = theorems c.args.rules.now in
    as-conv (ap (with_leaves (λ (leaf : Conversion). rules_conv rules)) (sym c.in_ok-everywhere.ensures.ok)) c.convert.ensures.converts
