use Rattle.std.proofs.Common.{◌≡◌, ◌∙◌, ◌++◌, Err, false, sym, subst, ap, refl}
use Rattle.hol_model.specs.Terms.HolType.{bool_type}
use Rattle.hol_model.specs.Terms.NamedTerm.{NamedTerm, equation}
use Rattle.hol_model.specs.Terms.Nameless.{Nameless, image}
use Rattle.hol_model.specs.Logic.Derivable.{nameless_equation}
use Rattle.hol_model.specs.Logic.Logic as nameless
use Rattle.hol_model.proofs.Terms.Images.{image-equation}
use Rattle.hol_equal.specs.Room.{FitsIf}
use Rattle.hol_equal.specs.Sequents.{Shows, DerivesIf}
use Rattle.hol_bool.specs.PreludeInstances.{LeadsTo, at_p_q}
use Rattle.hol_equal.proofs.StepLemmas.{equation-fits, passed_on}
use Rattle.hol_equal.proofs.CutLemmas.{right-names, given-derives}
use Rattle.hol_bool.proofs.RoomLemmas.{equation-is, equation-past}
use Rattle.hol_bool.proofs.ConjunctionAnswers.{mp_equation, mp-leads}
use Rattle.hol_bool.proofs.PreludeSteps.{where-no-room}
use Rattle.hol_bool.proofs.FormulaLemmas.{equation-formula, made-formula}
use Rattle.hol_bool.proofs.Passing.{unchanged}
use Rattle.hol_bool.proofs.implication_rules.mp_known.Goals as goal

pub returns-in_err-stated-clause-derives : goal.returns-in_err-stated-clause-derives
returns-in_err-stated-clause-derives c h k s room first second fits =
    let whole = c.args.first.now.theorem.conclusion in
    let b = c.args.consequent.now in
    let zero = c.conclusion_of-whole.ensures in
    rw (passed_on c.from_residual.result c.in_err-stated.field-0.0 c.from_residual.ensures.1)
    (equation-past c.in_err-stated.field-0.0 whole b c.conclusion_of-whole.result.now b zero.formula.typed c.requires.consequent.typed zero.value refl c.in_err-stated.ensures room
    (subst (λ (u : Nameless). FitsIf room (nameless_equation bool_type u (image b))) (sym first.concludes) fits))

pub returns-in_err-equation-clause-derives : goal.returns-in_err-equation-clause-derives
returns-in_err-equation-clause-derives c h k s room first second fits =
    let whole = c.args.first.now.theorem.conclusion in
    let a = c.args.second.now.theorem.conclusion in
    let b = c.args.consequent.now in
    let zero = c.conclusion_of-whole.ensures in
    let one = c.conclusion_of-antecedent.ensures in
    let two = c.requires.consequent in
    let theory = c.args.recorder.now.theory in
    let terms = c.deref.result.now in
    let stated_is = equation-is c.in_ok-stated.stated whole b c.conclusion_of-whole.result.now b zero.formula.typed two.typed zero.value refl c.in_ok-stated.ensures in
    let terms_are : terms ≡ at_p_q a b = c.deref.ensures.value ∙ c.in_ok-terms.ensures.ok ∙ ap (λ (u : NamedTerm). at_p_q u b) one.value in
    let leads = mp-leads theory whole a b terms zero.formula one.formula two terms_are c.requires.fits room
    (subst (λ (u : Nameless). FitsIf room (mp_equation u (image b))) (sym second.concludes) fits) in
    rw (passed_on c.from_residual-in_err-equation.result c.in_err-equation.field-0.0 c.from_residual-in_err-equation.ensures.1)
    (subst (λ (u : NamedTerm). LeadsTo theory 26 terms room (image a) (image u) → DerivesIf room (Err c.in_err-equation.field-0.0) k (image u)) stated_is
    (λ l. c.in_err-equation.ensures.derives k (image a) room l (subst (λ (u : Nameless). Shows c.args.second.now.theorem k u) (sym second.concludes) second)) leads)

pub eq_mp_known-requires-clause-fits : goal.eq_mp_known-requires-clause-fits
eq_mp_known-requires-clause-fits c =
    let whole = c.args.first.now.theorem.conclusion in
    let b = c.args.consequent.now in
    let zero = c.conclusion_of-whole.ensures in
    let stated_is =
    equation-is c.in_ok-stated.stated whole b c.conclusion_of-whole.result.now b zero.formula.typed c.requires.consequent.typed zero.value refl c.in_ok-stated.ensures in
    equation-fits c.in_ok-equation.equation.theorem c.args.first.now.theorem b zero.formula.typed (c.in_ok-equation.ensures.names ∙ stated_is)

pub returns-clause-names : goal.returns-clause-names
returns-clause-names c =
    let whole = c.args.first.now.theorem.conclusion in
    let b = c.args.consequent.now in
    let zero = c.conclusion_of-whole.ensures in
    let stated_is = equation-is c.in_ok-stated.stated whole b c.conclusion_of-whole.result.now b zero.formula.typed c.requires.consequent.typed zero.value refl c.in_ok-stated.ensures in
    right-names c.eq_mp_known.result c.in_ok-equation.equation.theorem.conclusion whole b zero.formula.typed (c.in_ok-equation.ensures.names ∙ stated_is) c.eq_mp_known.ensures.names

pub returns-clause-derives : goal.returns-clause-derives
returns-clause-derives c h k s room first second fits =
    let whole = c.args.first.now.theorem.conclusion in
    let a = c.args.second.now.theorem.conclusion in
    let b = c.args.consequent.now in
    let zero = c.conclusion_of-whole.ensures in
    let one = c.conclusion_of-antecedent.ensures in
    let two = c.requires.consequent in
    let theory = c.args.recorder.now.theory in
    let terms = c.deref.result.now in
    let stated_is = equation-is c.in_ok-stated.stated whole b c.conclusion_of-whole.result.now b zero.formula.typed two.typed zero.value refl c.in_ok-stated.ensures in
    let terms_are : terms ≡ at_p_q a b = c.deref.ensures.value ∙ c.in_ok-terms.ensures.ok ∙ ap (λ (u : NamedTerm). at_p_q u b) one.value in
    let leads = mp-leads theory whole a b terms zero.formula one.formula two terms_are c.requires.fits room
    (subst (λ (u : Nameless). FitsIf room (mp_equation u (image b))) (sym second.concludes) fits) in
    let equation_shown : Shows c.in_ok-equation.equation.theorem k (image (equation whole b)) =
    subst (λ (u : NamedTerm). LeadsTo theory 26 terms room (image a) (image u) → Shows c.in_ok-equation.equation.theorem k (image u)) stated_is
    (λ l. c.in_ok-equation.ensures.derives k (image a) room l (subst (λ (u : Nameless). Shows c.args.second.now.theorem k u) (sym second.concludes) second)) leads in
    let at_images : Shows c.in_ok-equation.equation.theorem k (mp_equation s (image b)) =
    subst (λ (u : Nameless). Shows c.in_ok-equation.equation.theorem k u)
    (image-equation whole b bool_type zero.formula.typed ∙ ap (λ (u : Nameless). nameless_equation bool_type u (image b)) first.concludes) equation_shown in
    given-derives room c.eq_mp_known.result (k ++ h) (image b)
    (c.eq_mp_known.ensures.gives k h (nameless.implication s (image b)) (image b) at_images first)

pub by_leading_theorem-requires-clause-leads : goal.by_leading_theorem-requires-clause-leads
by_leading_theorem-requires-clause-leads c =
    let whole = c.args.first.now.theorem.conclusion in
    let a = c.args.second.now.theorem.conclusion in
    let b = c.args.consequent.now in
    let zero = c.conclusion_of-whole.ensures in
    let one = c.conclusion_of-antecedent.ensures in
    let two = c.requires.consequent in
    let theory = c.args.recorder.now.theory in
    let terms = c.deref.result.now in
    let stated_is = equation-is c.in_ok-stated.stated whole b c.conclusion_of-whole.result.now b zero.formula.typed two.typed zero.value refl c.in_ok-stated.ensures in
    let terms_are : terms ≡ at_p_q a b = c.deref.ensures.value ∙ c.in_ok-terms.ensures.ok ∙ ap (λ (u : NamedTerm). at_p_q u b) one.value in
    subst (λ (u : NamedTerm). LeadsTo theory 26 terms false (image a) (image u)) (sym stated_is)
    (mp-leads theory whole a b terms zero.formula one.formula two terms_are c.requires.fits false (where-no-room (mp_equation (image a) (image b))))

pub by_leading_theorem-requires-clause-stated : goal.by_leading_theorem-requires-clause-stated
by_leading_theorem-requires-clause-stated c =
    let theory = c.args.recorder.now.theory in
    let whole = c.args.first.now.theorem.conclusion in
    let b = c.args.consequent.now in
    let zero = c.conclusion_of-whole.ensures in
    let stated_is = equation-is c.in_ok-stated.stated whole b c.conclusion_of-whole.result.now b zero.formula.typed c.requires.consequent.typed zero.value refl c.in_ok-stated.ensures in
    made-formula theory c.in_ok-stated.stated (equation whole b) stated_is (equation-formula theory zero.legal whole b zero.formula c.requires.consequent)

pub returns-in_err-stated-clause-continues : goal.returns-in_err-stated-clause-continues
returns-in_err-stated-clause-continues c = unchanged c.args.recorder.now c.from_residual.result c.from_residual.ensures.0

pub returns-in_err-terms-clause-continues : goal.returns-in_err-terms-clause-continues
returns-in_err-terms-clause-continues c = unchanged c.args.recorder.now c.from_residual-in_err-terms.result c.from_residual-in_err-terms.ensures.0
