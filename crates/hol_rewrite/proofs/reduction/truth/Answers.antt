use Rattle.std.proofs.Common.{refl, Ok, Err}
use Rattle.hol_model.specs.Terms.NamedTerm.{equation}
use Rattle.hol_model.specs.Logic.NamedLogic.{true_term}
use Rattle.hol_model.specs.Derived.DerivedRules.{images, terms_of_theorem, eqt_intro_outcome}
use Rattle.hol_equal.proofs.StepLemmas.{passed_on}
use Rattle.hol_rewrite.specs.Rules.{are_small}
use Rattle.hol_rewrite.proofs.FormLemmas.{stated-itself}
use Rattle.hol_rewrite.proofs.Joining.{stated-has}
use Rattle.hol_rewrite.proofs.Reducing.{only-rule}
use Rattle.hol_rewrite.proofs.RoomSteps.{stated-past, affirmed_room}
use Rattle.hol_rewrite.proofs.Steps.{concludes-ok}
use Rattle.hol_rewrite.proofs.reduction.truth.Goals as goal

pub returns-clause-reduced : goal.returns-clause-reduced
returns-clause-reduced c hypotheses same =
    let premise = c.args.theorem.now.theorem in
    let rule = c.in_ok-rule.rule in
    let form = stated-itself premise.conclusion c.requires.form.0 c.requires.form.1 in
    let is = concludes-ok (Ok rule) (terms_of_theorem premise) premise (equation premise.conclusion true_term) (eqt_intro_outcome premise) refl c.in_ok-rule.ensures.outcome in
    only-rule c.eqt_intro.new.recorder hypotheses premise rule c.in_ok-rule.ensures.continues.held.made (stated-has hypotheses premise rule.theorem form is same)

pub returns-in_err-rule-clause-err : goal.returns-in_err-rule-clause-err
returns-in_err-rule-clause-err c =
    let premise = c.args.theorem.now.theorem in
    let fault = c.in_err-rule.field-0.0 in
    rw (passed_on c.from_residual.result fault c.from_residual.ensures.1)
    (stated-past (Err fault) (terms_of_theorem premise) (images premise) (equation premise.conclusion true_term) (eqt_intro_outcome premise) (are_small premise) refl
    (affirmed_room premise c.conclusion_of-conclusion.ensures.formula.typed) c.in_err-rule.ensures.outcome)
