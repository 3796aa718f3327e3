use Rattle.std.proofs.Common.{◌≡◌, ◌∙◌, [], ◌∷◌, Err, false, refl, sym, ap, subst, IfOk}
use Rattle.hol_model.specs.Terms.HolType.{bool_type}
use Rattle.hol_model.specs.Terms.NamedTerm.{NamedTerm, equation}
use Rattle.hol_model.specs.Terms.Nameless.{image}
use Rattle.hol_model.specs.Logic.NamedLogic.{true_term}
use Rattle.hol_model.specs.Derived.DerivedRules.{images, eqt_intro_outcome}
use Rattle.hol_model.proofs.Terms.Images.{image-equation}
use Rattle.hol_prelude.specs.Prelude.{p}
use Rattle.hol_equal.specs.Sequents.{DerivesIf}
use Rattle.hol_bool.specs.PreludeInstances.{LeadsTo}
use Rattle.hol_equal.proofs.CutLemmas.{shows-itself}
use Rattle.hol_bool.proofs.RoomLemmas.{equation-is, equation-past}
use Rattle.hol_bool.proofs.RuleAnswers.{answered-one, leads-p, roomy-fits}
use Rattle.hol_bool.proofs.TruthAnswers.{truth-fits}
use Rattle.hol_bool.proofs.InferredRules.{infers_eqt_intro}
use Rattle.hol_bool.proofs.PreludeSteps.{where-no-room}
use Rattle.hol_bool.proofs.FormulaLemmas.{equation-formula, truth_is_formula, made-formula}
use Rattle.hol_bool.proofs.Passing.{unchanged}
use Rattle.hol_equal.proofs.StepLemmas.{passed_on}
use Rattle.hol_bool.proofs.truth_rules.eqt_intro.Goals as goal

pub returns-in_err-stated-clause-outcome : goal.returns-in_err-stated-clause-outcome
returns-in_err-stated-clause-outcome c =
    let premise = c.args.premise.now.theorem in
    let a = premise.conclusion in
    let typed = c.conclusion_of-conclusion.ensures.formula.typed in
    let fault = c.in_err-stated.field-0.0 in
    rw (passed_on c.from_residual-in_err-stated.result c.in_err-stated.field-0.0 c.from_residual-in_err-stated.ensures.1)
    (answered-one (Err fault) premise (equation a true_term) (eqt_intro_outcome premise) refl
    (λ room whole part. equation-past fault a true_term c.conclusion_of-conclusion.result.now c.in_ok-truth.truth typed refl
    c.conclusion_of-conclusion.ensures.value c.in_ok-truth.ensures.ok c.in_err-stated.ensures room (truth-fits room (image a) whole))
    tt)

pub returns-in_err-stated-clause-inferred : goal.returns-in_err-stated-clause-inferred
returns-in_err-stated-clause-inferred c = infers_eqt_intro c.conclusion_of-conclusion.ensures.formula (returns-in_err-stated-clause-outcome c)

pub returns-clause-outcome : goal.returns-clause-outcome
returns-clause-outcome c =
    let theory = c.args.recorder.now.theory in
    let premise = c.args.premise.now.theorem in
    let a = premise.conclusion in
    let formula = c.conclusion_of-conclusion.ensures.formula in
    let concludes = c.conclusion_of-conclusion.ensures.value in
    let stated_is : c.in_ok-stated.stated ≡ equation a true_term =
    equation-is c.in_ok-stated.stated a true_term c.conclusion_of-conclusion.result.now c.in_ok-truth.truth formula.typed refl concludes c.in_ok-truth.ensures.ok c.in_ok-stated.ensures in
    let image_is = image-equation a true_term bool_type formula.typed in
    answered-one c.by_leading_theorem.result premise (equation a true_term) (eqt_intro_outcome premise) refl
    (λ room whole part.
    subst (λ (s : NamedTerm). LeadsTo theory 9 c.deref.result.now room (image a) (image s) → DerivesIf room c.by_leading_theorem.result (images premise) (image s)) stated_is
    (λ leads. c.by_leading_theorem.ensures.derives (images premise) (image a) room leads (shows-itself premise))
    (leads-p theory 9 p (equation p true_term) a c.deref.result.now refl refl formula
    (c.deref.ensures.value ∙ c.in_ok-terms.ensures.ok ∙ ap (λ (t : NamedTerm). (t, p) ∷ []) concludes) room (image a)
    (image (equation a true_term)) refl image_is
    (roomy-fits room (image a) whole) (roomy-fits room (image (equation a true_term)) part)))
    (subst (λ (s : NamedTerm). IfOk c.by_leading_theorem.result (λ made. made.theorem.conclusion ≡ s)) stated_is c.by_leading_theorem.ensures.names)

pub returns-clause-inferred : goal.returns-clause-inferred
returns-clause-inferred c = infers_eqt_intro c.conclusion_of-conclusion.ensures.formula (returns-clause-outcome c)

pub by_leading_theorem-requires-clause-leads : goal.by_leading_theorem-requires-clause-leads
by_leading_theorem-requires-clause-leads c =
    let theory = c.args.recorder.now.theory in
    let a = c.args.premise.now.theorem.conclusion in
    let concluded = c.conclusion_of-conclusion.ensures in
    let stated_is : c.in_ok-stated.stated ≡ equation a true_term =
    equation-is c.in_ok-stated.stated a true_term c.conclusion_of-conclusion.result.now c.in_ok-truth.truth concluded.formula.typed refl
    concluded.value c.in_ok-truth.ensures.ok c.in_ok-stated.ensures in
    subst (λ (s : NamedTerm). LeadsTo theory 9 c.deref.result.now false (image a) (image s)) (sym stated_is)
    (leads-p theory 9 p (equation p true_term) a c.deref.result.now refl refl concluded.formula
    (c.deref.ensures.value ∙ c.in_ok-terms.ensures.ok ∙ ap (λ (t : NamedTerm). (t, p) ∷ []) concluded.value) false (image a)
    (image (equation a true_term)) refl (image-equation a true_term bool_type concluded.formula.typed)
    (where-no-room (image a)) (where-no-room (image (equation a true_term))))

pub by_leading_theorem-requires-clause-stated : goal.by_leading_theorem-requires-clause-stated
by_leading_theorem-requires-clause-stated c =
    let journal = c.args.recorder.now in
    let a = c.args.premise.now.theorem.conclusion in
    let concluded = c.conclusion_of-conclusion.ensures in
    let stated_is =
    equation-is c.in_ok-stated.stated a true_term c.conclusion_of-conclusion.result.now c.in_ok-truth.truth concluded.formula.typed refl
    concluded.value c.in_ok-truth.ensures.ok c.in_ok-stated.ensures in
    made-formula journal.theory c.in_ok-stated.stated (equation a true_term) stated_is
    (equation-formula journal.theory concluded.legal a true_term concluded.formula (truth_is_formula journal c.args.logic.now c.requires.logic concluded.legal))

pub returns-in_err-truth-clause-continues : goal.returns-in_err-truth-clause-continues
returns-in_err-truth-clause-continues c = unchanged c.args.recorder.now c.from_residual.result c.from_residual.ensures.0

pub returns-in_err-stated-clause-continues : goal.returns-in_err-stated-clause-continues
returns-in_err-stated-clause-continues c = unchanged c.args.recorder.now c.from_residual-in_err-stated.result c.from_residual-in_err-stated.ensures.0

pub returns-in_err-terms-clause-continues : goal.returns-in_err-terms-clause-continues
returns-in_err-terms-clause-continues c = unchanged c.args.recorder.now c.from_residual-in_err-terms.result c.from_residual-in_err-terms.ensures.0
