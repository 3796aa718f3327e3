use Rattle.std.proofs.Common.{◌∙◌, sym, not, arith}
use Rattle.std.proofs.lemmas.Result.{IfOk-weaker}
use Rattle.hol_taut_formulas.specs.NumberedFormulas.{is_true_at}
use Rattle.hol_taut_formulas.proofs.Rows.{found_with_true, found_with_false}
use Rattle.hol_taut_formulas.proofs.decision.+first_false.Goals as goal

pub returns-then-is_some-clause-ok : goal.returns-then-is_some-clause-ok
returns-then-is_some-clause-ok t c =
    found_with_true (λ values. values.items) (λ row. not (is_true_at row c.args.formula.now)) c.args.row.now c.deref.result.now c.args.count
    c.in_ok-found.found (omega arith)
    (c.deref.ensures.value ∙ c.in_ok-with_true.ensures.ok) (sym c.is_some.ensures ∙ c.if-is_some.true) c.in_ok-found.ensures.ok

pub returns-clause-ok : goal.returns-clause-ok
returns-clause-ok t c =
    IfOk-weaker c.first_false-2.result _ _
    (λ found same. found_with_false (λ values. values.items) (λ row. not (is_true_at row c.args.formula.now)) c.args.row.now c.deref.result.now c.deref-2.result.now
    c.args.count c.in_ok-found.found _ (omega arith)
    (c.deref.ensures.value ∙ c.in_ok-with_true.ensures.ok) (c.deref-2.ensures.value ∙ c.in_ok-with_false.ensures.ok) (sym c.is_some.ensures ∙ c.if-is_some.false) c.in_ok-found.ensures.ok same)
    c.first_false-2.ensures.ok
