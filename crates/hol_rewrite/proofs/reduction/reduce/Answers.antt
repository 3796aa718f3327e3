use Rattle.std.proofs.Common.{◌∙◌, sym, ap, subst}
use Rattle.hol_model.specs.Rewrites.RewriteRules.{rule_form}
use Rattle.hol_rewrite.specs.Reduction.{IsOnlyRule}
use Rattle.hol_rewrite.proofs.Joining.{equal-has}
use Rattle.hol_rewrite.proofs.Reducing.{only-rule}
use Rattle.hol_rewrite.proofs.reduction.reduce.Goals as goal

pub parts-requires-clause-form : goal.parts-requires-clause-form
parts-requires-clause-form c =
    (c.in-Both.field-0.now, c.in-Both.field-1.now, sym (ap rule_form c.conclusion_of-conclusion.ensures.value) ∙ sym c.in-Both.ensures)

pub body-requires-clause-form : goal.body-requires-clause-form
body-requires-clause-form c =
    (record { name = c.in-Every.field-0.now; ty = c.in-Every.field-1.now; body = c.in-Every.field-2.now }, sym (ap rule_form c.conclusion_of-conclusion.ensures.value) ∙ sym c.in-Every.ensures)

pub returns-in_ok-copy-in-Equal-clause-reduced : goal.returns-in_ok-copy-in-Equal-clause-reduced
returns-in_ok-copy-in-Equal-clause-reduced c =
    let journal = c.args.recorder.now in
    let hypotheses = c.args.hypotheses.now in
    let premise = c.args.theorem.now in
    let form = sym (ap rule_form c.conclusion_of-conclusion.ensures.value) ∙ sym c.in-Equal.ensures in
    subst (IsOnlyRule journal hypotheses premise.theorem) (sym c.in_ok-copy-in-Equal.ensures.ok)
    (only-rule journal hypotheses premise.theorem premise c.requires.made (equal-has hypotheses premise.theorem c.in-Equal.field-0.now c.in-Equal.field-1.now form c.requires.same))

pub truth-requires-clause-form : goal.truth-requires-clause-form
truth-requires-clause-form c =
    (c.in-Stated.field-0.now, sym (ap rule_form c.conclusion_of-conclusion.ensures.value) ∙ sym c.in-Stated.ensures)
