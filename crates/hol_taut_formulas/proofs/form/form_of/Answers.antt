use Rattle.std.proofs.Common.{◌∙◌, sym, ap, subst}
use Rattle.hol_model.specs.Terms.NamedTerm.{NamedTerm, combination}
use Rattle.hol_taut_formulas.specs.Forms.{IsWhole}
use Rattle.hol_taut_formulas.proofs.FormLemmas.{connective-is, not-is}
use Rattle.hol_taut_formulas.proofs.form.form_of.Goals as goal

pub returns-in-Constant-clause-lower : goal.returns-in-Constant-clause-lower
returns-in-Constant-clause-lower c = c.form_of_constant.ensures.lower _

pub returns-in-Constant-clause-whole : goal.returns-in-Constant-clause-whole
returns-in-Constant-clause-whole c = subst (λ (t : NamedTerm). IsWhole t c.form_of_constant.result) c.in-Constant.ensures.value (c.form_of_constant.ensures.whole _)

pub returns-in-Some-clause-whole : goal.returns-in-Some-clause-whole
returns-in-Some-clause-whole c =
    sym c.in-Combination.ensures.value
    ∙ ap (λ t. combination t c.in-Combination.right.now) (sym c.in-Combination-parts.ensures.value)
    ∙ ap (λ t. combination (combination t c.in-Combination-parts.left.now) c.in-Combination.right.now) (connective-is _ _ (sym c.in-Some.ensures))

pub returns-then-is_not-clause-whole : goal.returns-then-is_not-clause-whole
returns-then-is_not-clause-whole c =
    sym c.in-Combination.ensures.value
    ∙ ap (λ t. combination t c.in-Combination.right.now) (not-is _ (sym c.is_not.ensures ∙ c.if-is_not.true))
