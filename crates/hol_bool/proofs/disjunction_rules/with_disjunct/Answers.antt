use Rattle.std.proofs.Common.{◌≡◌, ◌∙◌, List, IfOk, false, refl, sym, subst}
use Rattle.hol_model.specs.Terms.NamedTerm.{NamedTerm}
use Rattle.hol_model.specs.Terms.Nameless.{image}
use Rattle.hol_model.specs.Logic.Logic.{or_name}
use Rattle.hol_model.specs.Logic.NamedLogic.{disjunction}
use Rattle.hol_model.specs.Derived.DerivedRules.{images}
use Rattle.hol_equal.specs.Sequents.{DerivesIf}
use Rattle.hol_bool.specs.PreludeInstances.{LeadsTo, at_p_q}
use Rattle.hol_equal.proofs.CutLemmas.{shows-itself}
use Rattle.hol_equal.proofs.StepLemmas.{passed_on}
use Rattle.hol_bool.proofs.RoomLemmas.{connected-is, connected-past}
use Rattle.hol_bool.proofs.FormulaLemmas.{connects, made-formula}
use Rattle.hol_bool.proofs.Passing.{unchanged}
use Rattle.hol_bool.proofs.disjunction_rules.with_disjunct.Goals as goal

pub returns-in_err-stated-clause-derives : goal.returns-in_err-stated-clause-derives
returns-in_err-stated-clause-derives c room leads =
    let p = c.args.p.now in
    let q = c.args.q.now in
    rw (passed_on c.from_residual.result c.in_err-stated.field-0.0 c.from_residual.ensures.1)
    (connected-past c.in_err-stated.field-0.0 or_name p q p q c.requires.left.typed c.requires.right.typed refl refl c.in_err-stated.ensures room leads.conclusion_fits)

pub returns-clause-derives : goal.returns-clause-derives
returns-clause-derives c room leads =
    let theory = c.args.recorder.now.theory in
    let number = c.args.number in
    let p = c.args.p.now in
    let q = c.args.q.now in
    let premise = c.args.premise.now.theorem in
    let terms = c.deref.result.now in
    let stated_is = connected-is c.in_ok-stated.stated or_name p q p q c.requires.left.typed c.requires.right.typed refl refl c.in_ok-stated.ensures in
    let terms_are : terms ≡ at_p_q p q = c.deref.ensures.value ∙ c.in_ok-terms.ensures.ok in
    subst (λ (s : NamedTerm). LeadsTo theory number terms room (image premise.conclusion) (image s) → DerivesIf room c.by_leading_theorem.result (images premise) (image s)) stated_is
    (λ there. c.by_leading_theorem.ensures.derives (images premise) (image premise.conclusion) room there (shows-itself premise))
    (subst (λ (l : List (NamedTerm × NamedTerm)). LeadsTo theory number l room (image premise.conclusion) (image (disjunction p q))) (sym terms_are) leads)

pub returns-clause-names : goal.returns-clause-names
returns-clause-names c =
    let p = c.args.p.now in
    let q = c.args.q.now in
    let stated_is = connected-is c.in_ok-stated.stated or_name p q p q c.requires.left.typed c.requires.right.typed refl refl c.in_ok-stated.ensures in
    subst (λ (s : NamedTerm). IfOk c.by_leading_theorem.result (λ made. made.theorem.conclusion ≡ s)) stated_is c.by_leading_theorem.ensures.names

pub by_leading_theorem-requires-clause-leads : goal.by_leading_theorem-requires-clause-leads
by_leading_theorem-requires-clause-leads c =
    let theory = c.args.recorder.now.theory in
    let number = c.args.number in
    let p = c.args.p.now in
    let q = c.args.q.now in
    let premise = c.args.premise.now.theorem in
    let terms = c.deref.result.now in
    let stated_is = connected-is c.in_ok-stated.stated or_name p q p q c.requires.left.typed c.requires.right.typed refl refl c.in_ok-stated.ensures in
    let terms_are : terms ≡ at_p_q p q = c.deref.ensures.value ∙ c.in_ok-terms.ensures.ok in
    subst (λ (s : NamedTerm). LeadsTo theory number terms false (image premise.conclusion) (image s)) (sym stated_is)
    (subst (λ (l : List (NamedTerm × NamedTerm)). LeadsTo theory number l false (image premise.conclusion) (image (disjunction p q))) (sym terms_are) c.requires.leads)

pub by_leading_theorem-requires-clause-stated : goal.by_leading_theorem-requires-clause-stated
by_leading_theorem-requires-clause-stated c =
    let journal = c.args.recorder.now in
    let p = c.args.p.now in
    let q = c.args.q.now in
    let stated_is = connected-is c.in_ok-stated.stated or_name p q p q c.requires.left.typed c.requires.right.typed refl refl c.in_ok-stated.ensures in
    made-formula journal.theory c.in_ok-stated.stated (disjunction p q) stated_is
    (connects journal c.args.logic.now c.requires.logic c.theory_is_legal.ensures or_name refl p q c.requires.left c.requires.right)

pub returns-in_err-stated-clause-continues : goal.returns-in_err-stated-clause-continues
returns-in_err-stated-clause-continues c = unchanged c.args.recorder.now c.from_residual.result c.from_residual.ensures.0

pub returns-in_err-terms-clause-continues : goal.returns-in_err-terms-clause-continues
returns-in_err-terms-clause-continues c = unchanged c.args.recorder.now c.from_residual-in_err-terms.result c.from_residual-in_err-terms.ensures.0
