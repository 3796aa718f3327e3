use Rattle.std.proofs.Common.{◌∙◌, ◌-◌, Some, w64, map, length, ap, subst, arith}
use Rattle.std.specs.Int.{trailing_ones}
use Rattle.hol_taut_formulas.specs.Words.{is_set, HasValues}
use Rattle.hol_taut_formulas.proofs.RowWords.{shifted, few_rows, none_in_word, first_in_word}
use Rattle.hol_taut_formulas.proofs.decision.first_false_in_word.Goals as goal

pub row_at-requires : goal.row_at-requires
row_at-requires c =
    let left = c.args.count - length c.args.row.now in
    omega (arith, shifted left c.requires.few, few_rows left c.requires.few, c.if-place-left.false)

pub returns-then-place-left-clause-ok : goal.returns-then-place-left-clause-ok
returns-then-place-left-clause-ok c =
    let left = c.args.count - length c.args.row.now in
    let columns = c.deref.ensures.value ∙ c.in_ok-columns.ensures.ok in
    none_in_word c.args.formula.now c.args.row.now left c.in_ok-word.word c.requires.few
    (subst (λ l. HasValues c.args.formula.now l c.in_ok-word.word) columns c.in_ok-word.ensures.ok)
    (omega (arith, shifted left c.requires.few, c.if-place-left.true, c.trailing_ones-place.ensures))

pub returns-clause-ok : goal.returns-clause-ok
returns-clause-ok c =
    let left = c.args.count - length c.args.row.now in
    let columns = c.deref.ensures.value ∙ c.in_ok-columns.ensures.ok in
    ap (λ values. Some values) (c.in_ok-row_at.ensures.ok ∙ ap (λ place. map (is_set place) c.deref-2.result.now) c.trailing_ones-place.ensures
    ∙ ap (map (is_set (trailing_ones w64 c.in_ok-word.word))) (c.deref-2.ensures.value ∙ c.in_ok-columns.ensures.ok))
    ∙ first_in_word c.args.formula.now c.args.row.now left c.in_ok-word.word c.requires.few
    (subst (λ l. HasValues c.args.formula.now l c.in_ok-word.word) columns c.in_ok-word.ensures.ok)
    (omega (arith, shifted left c.requires.few, c.if-place-left.false, c.trailing_ones-place.ensures))
