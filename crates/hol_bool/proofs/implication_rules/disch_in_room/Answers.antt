use Rattle.std.proofs.Common.{◌≡◌, ◌∙◌, IfOk, false, refl, sym, subst, ap}
use Rattle.hol_model.specs.Terms.HolType.{bool_type}
use Rattle.hol_model.specs.Terms.NamedTerm.{NamedTerm}
use Rattle.hol_model.specs.Terms.Nameless.{Nameless, image}
use Rattle.hol_model.specs.Logic.Theory.{Theory}
use Rattle.hol_model.specs.Logic.Derivable.{without, nameless_equation}
use Rattle.hol_model.specs.Logic.Logic as nameless
use Rattle.hol_model.specs.Logic.Logic.{implies_name}
use Rattle.hol_model.specs.Logic.NamedLogic.{implication}
use Rattle.hol_equal.specs.Room.{FitsIf}
use Rattle.hol_equal.specs.Sequents.{Shows, DerivesIf}
use Rattle.hol_bool.specs.PreludeInstances.{LeadsTo, at_p_q}
use Rattle.hol_bool.proofs.RoomLemmas.{connected-is, connected-past}
use Rattle.hol_bool.proofs.ImplicationAnswers.{disch_equation, disch-implication-fits, disch-leads}
use Rattle.hol_model.specs.Derived.DerivedRules.{images}
use Rattle.hol_equal.proofs.CutLemmas.{shows-itself}
use Rattle.hol_bool.proofs.PreludeSteps.{where-no-room}
use Rattle.hol_bool.proofs.FormulaLemmas.{connects, made-formula, formula_in}
use Rattle.hol_bool.proofs.Passing.{unchanged}
use Rattle.hol_equal.proofs.StepLemmas.{passed_on}
use Rattle.hol_bool.proofs.implication_rules.disch_in_room.Goals as goal

pub returns-in_err-stated-clause-derives : goal.returns-in_err-stated-clause-derives
returns-in_err-stated-clause-derives c h q room shown fits =
    let a = c.args.p.now in
    let b = c.args.premise.now.theorem.conclusion in
    let concluded = c.conclusion_of-q.ensures in
    rw (passed_on c.from_residual.result c.in_err-stated.field-0.0 c.from_residual.ensures.1)
    (connected-past c.in_err-stated.field-0.0 implies_name a b a c.conclusion_of-q.result.now c.requires.formula.typed concluded.formula.typed refl concluded.value c.in_err-stated.ensures room
    (disch-implication-fits room (image a) (image b) (subst (λ (t : Nameless). FitsIf room (disch_equation (image a) t)) (sym shown.concludes) fits)))

pub returns-clause-names : goal.returns-clause-names
returns-clause-names c =
    let a = c.args.p.now in
    let b = c.args.premise.now.theorem.conclusion in
    let concluded = c.conclusion_of-q.ensures in
    let stated_is = connected-is c.in_ok-stated.stated implies_name a b a c.conclusion_of-q.result.now c.requires.formula.typed concluded.formula.typed refl concluded.value c.in_ok-stated.ensures in
    subst (λ (t : NamedTerm). IfOk c.by_leading_theorem.result (λ made. made.theorem.conclusion ≡ t)) stated_is c.by_leading_theorem.ensures.names

pub returns-clause-derives : goal.returns-clause-derives
returns-clause-derives c h q room shown fits =
    let a = c.args.p.now in
    let b = c.args.premise.now.theorem.conclusion in
    let concluded = c.conclusion_of-q.ensures in
    let terms = c.deref.result.now in
    let left = without (image a) h in
    let stated_is = connected-is c.in_ok-stated.stated implies_name a b a c.conclusion_of-q.result.now c.requires.formula.typed concluded.formula.typed refl concluded.value c.in_ok-stated.ensures in
    let terms_are : terms ≡ at_p_q a b = c.deref.ensures.value ∙ c.in_ok-terms.ensures.ok ∙ ap (at_p_q a) concluded.value in
    let fits_here = subst (λ (t : Nameless). FitsIf room (disch_equation (image a) t)) (sym shown.concludes) fits in
    let from = nameless_equation bool_type (nameless.conjunction (image a) (image b)) (image a) in
    let leads = subst (λ (t : Theory). LeadsTo t 16 terms room from (image (implication a b))) (sym c.in_ok-equation.ensures.continues.theory)
    (disch-leads c.args.recorder.now.theory a b terms c.requires.formula concluded.formula terms_are room fits_here) in
    let equation = subst (λ (t : Nameless).
    Shows c.in_ok-equation.equation.theorem left (nameless_equation bool_type (nameless.conjunction (image a) t) (image a)))
    (sym shown.concludes) (c.in_ok-equation.ensures.derives h q room shown fits) in
    let answer : DerivesIf room c.by_leading_theorem.result left (nameless.implication (image a) (image b)) =
    subst (λ (t : NamedTerm). LeadsTo c.absorption.new.recorder.theory 16 terms room from (image t) → DerivesIf room c.by_leading_theorem.result left (image t)) stated_is
    (λ l. c.by_leading_theorem.ensures.derives left from room l equation) leads in
    subst (λ (t : Nameless). DerivesIf room c.by_leading_theorem.result left (nameless.implication (image a) t)) shown.concludes answer

pub by_leading_theorem-requires-clause-leads : goal.by_leading_theorem-requires-clause-leads
by_leading_theorem-requires-clause-leads c =
    let a = c.args.p.now in
    let premise = c.args.premise.now.theorem in
    let b = premise.conclusion in
    let concluded = c.conclusion_of-q.ensures in
    let terms = c.deref.result.now in
    let theory = c.absorption.new.recorder.theory in
    let stated_is = connected-is c.in_ok-stated.stated implies_name a b a c.conclusion_of-q.result.now c.requires.formula.typed concluded.formula.typed refl concluded.value c.in_ok-stated.ensures in
    let terms_are : terms ≡ at_p_q a b = c.deref.ensures.value ∙ c.in_ok-terms.ensures.ok ∙ ap (at_p_q a) concluded.value in
    let from = nameless_equation bool_type (nameless.conjunction (image a) (image b)) (image a) in
    let equation = c.in_ok-equation.ensures.derives (images premise) (image b) false (shows-itself premise) (where-no-room (disch_equation (image a) (image b))) in
    let leads = subst (λ (t : Theory). LeadsTo t 16 terms false from (image (implication a b))) (sym c.in_ok-equation.ensures.continues.theory)
    (disch-leads c.args.recorder.now.theory a b terms c.requires.formula concluded.formula terms_are false (where-no-room (disch_equation (image a) (image b)))) in
    subst (λ (t : Nameless). LeadsTo theory 16 terms false t (image c.in_ok-stated.stated)) (sym equation.concludes)
    (subst (λ (t : NamedTerm). LeadsTo theory 16 terms false from (image t)) (sym stated_is) leads)

pub by_leading_theorem-requires-clause-stated : goal.by_leading_theorem-requires-clause-stated
by_leading_theorem-requires-clause-stated c =
    let journal = c.args.recorder.now in
    let a = c.args.p.now in
    let b = c.args.premise.now.theorem.conclusion in
    let concluded = c.conclusion_of-q.ensures in
    let stated_is = connected-is c.in_ok-stated.stated implies_name a b a c.conclusion_of-q.result.now c.requires.formula.typed concluded.formula.typed refl concluded.value c.in_ok-stated.ensures in
    formula_in c.absorption.new.recorder.theory journal.theory c.in_ok-stated.stated c.in_ok-equation.ensures.continues.theory
    (made-formula journal.theory c.in_ok-stated.stated (implication a b) stated_is
    (connects journal c.args.logic.now c.requires.logic concluded.legal implies_name refl a b c.requires.formula concluded.formula))

pub returns-in_err-stated-clause-continues : goal.returns-in_err-stated-clause-continues
returns-in_err-stated-clause-continues c = unchanged c.args.recorder.now c.from_residual.result c.from_residual.ensures.0

pub returns-in_err-terms-clause-continues : goal.returns-in_err-terms-clause-continues
returns-in_err-terms-clause-continues c = unchanged c.args.recorder.now c.from_residual-in_err-terms.result c.from_residual-in_err-terms.ensures.0
