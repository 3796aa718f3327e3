use Rattle.std.proofs.Common.{◌≡◌, ◌∙◌, [], ◌∷◌, ◌++◌, Err, false, refl, sym, subst}
use Rattle.hol_model.specs.Terms.HolType.{bool_type}
use Rattle.hol_model.specs.Terms.NamedTerm.{NamedTerm, equation}
use Rattle.hol_model.specs.Terms.Nameless.{Nameless, image}
use Rattle.hol_model.specs.Logic.Logic as nameless
use Rattle.hol_model.specs.Logic.Logic.{and_name}
use Rattle.hol_model.specs.Logic.NamedLogic.{conjunction}
use Rattle.hol_model.proofs.Terms.Images.{image-equation}
use Rattle.hol_prelude.specs.Prelude.{p, q}
use Rattle.hol_equal.specs.Sequents.{Shows, DerivesIf}
use Rattle.hol_bool.specs.PreludeInstances.{LeadsTo, at_p_q}
use Rattle.hol_equal.proofs.StepLemmas.{equation-fits, passed_on}
use Rattle.hol_equal.proofs.CutLemmas.{right-names, given-derives}
use Rattle.hol_bool.proofs.RoomLemmas.{equation-is, equation-past, connected-is, connected-past, connected-typed}
use Rattle.hol_bool.proofs.ConjunctionAnswers.{conj_equation, conj-fits-at, conj-both-fits, conj-leads}
use Rattle.hol_bool.proofs.PreludeSteps.{where-no-room}
use Rattle.hol_bool.proofs.FormulaLemmas.{equation-formula, connects, made-formula}
use Rattle.hol_bool.proofs.Passing.{unchanged}
use Rattle.hol_bool.proofs.conjunction_rules.conjoined.Goals as goal

pub returns-in_err-both-clause-conjoins : goal.returns-in_err-both-clause-conjoins
returns-in_err-both-clause-conjoins c =
    let a = c.args.first.now.theorem.conclusion in
    let b = c.args.second.now.theorem.conclusion in
    let one = c.conclusion_of-p.ensures in
    let two = c.conclusion_of-q.ensures in
    rw (passed_on c.from_residual.result c.in_err-both.field-0.0 c.from_residual.ensures.1) (
      tt,
      λ h k s t room first second fits.
          connected-past c.in_err-both.field-0.0 and_name a b c.conclusion_of-p.result.now c.conclusion_of-q.result.now one.formula.typed two.formula.typed one.value two.value c.in_err-both.ensures room
          (conj-both-fits room (image a) (image b) (conj-fits-at room (image a) (image b) s t first.concludes second.concludes fits)),
    )

pub returns-in_err-stated-clause-conjoins : goal.returns-in_err-stated-clause-conjoins
returns-in_err-stated-clause-conjoins c =
    let a = c.args.first.now.theorem.conclusion in
    let b = c.args.second.now.theorem.conclusion in
    let one = c.conclusion_of-p.ensures in
    let two = c.conclusion_of-q.ensures in
    let both_is = connected-is c.in_ok-both.both and_name a b c.conclusion_of-p.result.now c.conclusion_of-q.result.now one.formula.typed two.formula.typed one.value two.value c.in_ok-both.ensures in
    rw (passed_on c.from_residual-in_err-stated.result c.in_err-stated.field-0.0 c.from_residual-in_err-stated.ensures.1) (
      tt,
      λ h k s t room first second fits.
          equation-past c.in_err-stated.field-0.0 b (conjunction a b) c.conclusion_of-q.result.now c.in_ok-both.both two.formula.typed
          (connected-typed and_name a b one.formula.typed two.formula.typed) two.value both_is c.in_err-stated.ensures room
          (conj-fits-at room (image a) (image b) s t first.concludes second.concludes fits),
    )

pub returns-in_err-equation-clause-conjoins : goal.returns-in_err-equation-clause-conjoins
returns-in_err-equation-clause-conjoins c =
    let a = c.args.first.now.theorem.conclusion in
    let b = c.args.second.now.theorem.conclusion in
    let one = c.conclusion_of-p.ensures in
    let two = c.conclusion_of-q.ensures in
    let theory = c.args.recorder.now.theory in
    let terms = c.deref.result.now in
    let both_is = connected-is c.in_ok-both.both and_name a b c.conclusion_of-p.result.now c.conclusion_of-q.result.now one.formula.typed two.formula.typed one.value two.value c.in_ok-both.ensures in
    let stated_is =
    equation-is c.in_ok-stated.stated b (conjunction a b) c.conclusion_of-q.result.now c.in_ok-both.both two.formula.typed
    (connected-typed and_name a b one.formula.typed two.formula.typed) two.value both_is c.in_ok-stated.ensures in
    let terms_are : terms ≡ at_p_q a b = c.deref.ensures.value ∙ c.in_ok-terms.ensures.ok ∙ (λ i. (one.value i, p) ∷ (two.value i, q) ∷ []) in
    rw (passed_on c.from_residual-in_err-equation.result c.in_err-equation.field-0.0 c.from_residual-in_err-equation.ensures.1) (
      tt,
      λ h k s t room first second fits.
          let leads = conj-leads theory a b terms one.formula two.formula terms_are room (conj-fits-at room (image a) (image b) s t first.concludes second.concludes fits) in
          subst (λ (u : NamedTerm). LeadsTo theory 25 terms room (image a) (image u) → DerivesIf room (Err c.in_err-equation.field-0.0) h (image u)) stated_is
          (λ l. c.in_err-equation.ensures.derives h (image a) room l (subst (λ (u : Nameless). Shows c.args.first.now.theorem h u) (sym first.concludes) first)) leads,
    )

pub eq_mp_known-requires-clause-fits : goal.eq_mp_known-requires-clause-fits
eq_mp_known-requires-clause-fits c =
    let a = c.args.first.now.theorem.conclusion in
    let b = c.args.second.now.theorem.conclusion in
    let one = c.conclusion_of-p.ensures in
    let two = c.conclusion_of-q.ensures in
    let both_is =
    connected-is c.in_ok-both.both and_name a b c.conclusion_of-p.result.now c.conclusion_of-q.result.now one.formula.typed two.formula.typed one.value two.value
    c.in_ok-both.ensures in
    let stated_is =
    equation-is c.in_ok-stated.stated b (conjunction a b) c.conclusion_of-q.result.now c.in_ok-both.both two.formula.typed
    (connected-typed and_name a b one.formula.typed two.formula.typed) two.value both_is c.in_ok-stated.ensures in
    equation-fits c.in_ok-equation.equation.theorem c.args.second.now.theorem (conjunction a b) two.formula.typed (c.in_ok-equation.ensures.names ∙ stated_is)

pub returns-clause-conjoins : goal.returns-clause-conjoins
returns-clause-conjoins c =
    let a = c.args.first.now.theorem.conclusion in
    let b = c.args.second.now.theorem.conclusion in
    let one = c.conclusion_of-p.ensures in
    let two = c.conclusion_of-q.ensures in
    let theory = c.args.recorder.now.theory in
    let terms = c.deref.result.now in
    let both_is = connected-is c.in_ok-both.both and_name a b c.conclusion_of-p.result.now c.conclusion_of-q.result.now one.formula.typed two.formula.typed one.value two.value c.in_ok-both.ensures in
    let stated_is =
    equation-is c.in_ok-stated.stated b (conjunction a b) c.conclusion_of-q.result.now c.in_ok-both.both two.formula.typed
    (connected-typed and_name a b one.formula.typed two.formula.typed) two.value both_is c.in_ok-stated.ensures in
    let terms_are : terms ≡ at_p_q a b = c.deref.ensures.value ∙ c.in_ok-terms.ensures.ok ∙ (λ i. (one.value i, p) ∷ (two.value i, q) ∷ []) in (
      right-names c.eq_mp_known.result c.in_ok-equation.equation.theorem.conclusion b (conjunction a b) two.formula.typed (c.in_ok-equation.ensures.names ∙ stated_is) c.eq_mp_known.ensures.names,
      λ h k s t room first second fits.
          let leads = conj-leads theory a b terms one.formula two.formula terms_are room (conj-fits-at room (image a) (image b) s t first.concludes second.concludes fits) in
          let equation_shown : Shows c.in_ok-equation.equation.theorem h (image (equation b (conjunction a b))) =
          subst (λ (u : NamedTerm). LeadsTo theory 25 terms room (image a) (image u) → Shows c.in_ok-equation.equation.theorem h (image u)) stated_is
          (λ l. c.in_ok-equation.ensures.derives h (image a) room l (subst (λ (u : Nameless). Shows c.args.first.now.theorem h u) (sym first.concludes) first)) leads in
          let at_images : Shows c.in_ok-equation.equation.theorem h (conj_equation (image a) (image b)) =
          subst (λ (u : Nameless). Shows c.in_ok-equation.equation.theorem h u) (image-equation b (conjunction a b) bool_type two.formula.typed) equation_shown in
          let path : conj_equation (image a) (image b) ≡ conj_equation s t = λ i. conj_equation (first.concludes i) (second.concludes i) in
          given-derives room c.eq_mp_known.result (h ++ k) (nameless.conjunction s t)
          (c.eq_mp_known.ensures.gives h k t (nameless.conjunction s t) (subst (λ (u : Nameless). Shows c.in_ok-equation.equation.theorem h u) path at_images) second),
    )

pub by_leading_theorem-requires-clause-leads : goal.by_leading_theorem-requires-clause-leads
by_leading_theorem-requires-clause-leads c =
    let a = c.args.first.now.theorem.conclusion in
    let b = c.args.second.now.theorem.conclusion in
    let one = c.conclusion_of-p.ensures in
    let two = c.conclusion_of-q.ensures in
    let theory = c.args.recorder.now.theory in
    let terms = c.deref.result.now in
    let both_is = connected-is c.in_ok-both.both and_name a b c.conclusion_of-p.result.now c.conclusion_of-q.result.now one.formula.typed two.formula.typed one.value two.value c.in_ok-both.ensures in
    let stated_is =
    equation-is c.in_ok-stated.stated b (conjunction a b) c.conclusion_of-q.result.now c.in_ok-both.both two.formula.typed
    (connected-typed and_name a b one.formula.typed two.formula.typed) two.value both_is c.in_ok-stated.ensures in
    let terms_are : terms ≡ at_p_q a b = c.deref.ensures.value ∙ c.in_ok-terms.ensures.ok ∙ (λ i. (one.value i, p) ∷ (two.value i, q) ∷ []) in
    subst (λ (u : NamedTerm). LeadsTo theory 25 terms false (image a) (image u)) (sym stated_is)
    (conj-leads theory a b terms one.formula two.formula terms_are false (where-no-room (conj_equation (image a) (image b))))

pub by_leading_theorem-requires-clause-stated : goal.by_leading_theorem-requires-clause-stated
by_leading_theorem-requires-clause-stated c =
    let journal = c.args.recorder.now in
    let a = c.args.first.now.theorem.conclusion in
    let b = c.args.second.now.theorem.conclusion in
    let one = c.conclusion_of-p.ensures in
    let two = c.conclusion_of-q.ensures in
    let both_is = connected-is c.in_ok-both.both and_name a b c.conclusion_of-p.result.now c.conclusion_of-q.result.now one.formula.typed two.formula.typed one.value two.value c.in_ok-both.ensures in
    let stated_is =
    equation-is c.in_ok-stated.stated b (conjunction a b) c.conclusion_of-q.result.now c.in_ok-both.both two.formula.typed
    (connected-typed and_name a b one.formula.typed two.formula.typed) two.value both_is c.in_ok-stated.ensures in
    made-formula journal.theory c.in_ok-stated.stated (equation b (conjunction a b)) stated_is
    (equation-formula journal.theory one.legal b (conjunction a b) two.formula (connects journal c.args.logic.now c.requires.logic one.legal and_name refl a b one.formula two.formula))

pub returns-in_err-both-clause-continues : goal.returns-in_err-both-clause-continues
returns-in_err-both-clause-continues c = unchanged c.args.recorder.now c.from_residual.result c.from_residual.ensures.0

pub returns-in_err-stated-clause-continues : goal.returns-in_err-stated-clause-continues
returns-in_err-stated-clause-continues c = unchanged c.args.recorder.now c.from_residual-in_err-stated.result c.from_residual-in_err-stated.ensures.0

pub returns-in_err-terms-clause-continues : goal.returns-in_err-terms-clause-continues
returns-in_err-terms-clause-continues c = unchanged c.args.recorder.now c.from_residual-in_err-terms.result c.from_residual-in_err-terms.ensures.0
