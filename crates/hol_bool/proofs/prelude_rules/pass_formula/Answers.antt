use Rattle.std.proofs.Common.{sym, ◌∙◌}
use Rattle.hol_bool.proofs.FormulaLemmas.{formula-test, no-formula, formula-refused, formula-passed}
use Rattle.hol_bool.proofs.prelude_rules.pass_formula.Goals as goal

pub returns-then-not-is_bool-clause-err : goal.returns-then-not-is_bool-clause-err
returns-then-not-is_bool-clause-err c =
    no-formula c.args.recorder.now.theory c.args.term.now
    (formula-test c.args.term.now c.ty.result.now c.ty.ensures ∙ sym c.is_bool.ensures ∙ c.if-not-is_bool.true)

pub returns-clause-err : goal.returns-clause-err
returns-clause-err c =
    formula-refused c.args.recorder.now.theory c.args.term.now c.pass_known.result
    (formula-test c.args.term.now c.ty.result.now c.ty.ensures ∙ sym c.is_bool.ensures ∙ c.if-not-is_bool.false) c.pass_known.ensures.err

pub returns-clause-ok : goal.returns-clause-ok
returns-clause-ok c =
    formula-passed c.args.recorder.now.theory c.args.term.now c.pass_known.result
    (formula-test c.args.term.now c.ty.result.now c.ty.ensures ∙ sym c.is_bool.ensures ∙ c.if-not-is_bool.false) c.pass_known.ensures.ok
