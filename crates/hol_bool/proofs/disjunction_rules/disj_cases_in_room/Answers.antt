use Rattle.std.proofs.Common.{◌≡◌, ◌∙◌, false, refl, sym, subst}
use Rattle.hol_model.specs.Terms.Nameless.{const, image}
use Rattle.hol_model.specs.Terms.NamedTerm.{NamedTerm}
use Rattle.hol_model.specs.Logic.Logic.{binary, implies_name}
use Rattle.hol_model.specs.Logic.NamedLogic.{disjunction, implication}
use Rattle.hol_equal.specs.Sequents.{DerivesIf}
use Rattle.hol_bool.specs.Disjunctions.{other_case, both_cases}
use Rattle.hol_bool.specs.PreludeInstances.{LeadsTo, at_p_q_r}
use Rattle.hol_bool.proofs.RoomLemmas.{connected-is, connected-past, connected-typed, fits-left}
use Rattle.hol_bool.proofs.DisjunctionAnswers.{other-typed, cases-leads}
use Rattle.hol_bool.proofs.PreludeSteps.{where-no-room}
use Rattle.hol_bool.proofs.FormulaLemmas.{connects, made-formula}
use Rattle.hol_equal.specs.Formulas.{IsFormula}
use Rattle.hol_bool.proofs.Passing.{unchanged}
use Rattle.hol_equal.proofs.StepLemmas.{passed_on}
use Rattle.hol_bool.proofs.disjunction_rules.disj_cases_in_room.Goals as goal

pub returns-in_err-case-clause-derives : goal.returns-in_err-case-clause-derives
returns-in_err-case-clause-derives c h room shown whole stated =
    let p = c.args.sides.left.now in
    let q = c.args.sides.right.now in
    let r = c.args.r.now in
    rw (passed_on c.from_residual.result c.in_err-case.field-0.0 c.from_residual.ensures.1)
    (connected-past c.in_err-case.field-0.0 implies_name p r p r c.requires.left.typed c.requires.r.typed refl refl c.in_err-case.ensures room
    (fits-left room (const implies_name binary) (image (implication p r)) (image (other_case q r)) stated))

pub returns-in_err-stated-clause-derives : goal.returns-in_err-stated-clause-derives
returns-in_err-stated-clause-derives c h room shown whole stated =
    let p = c.args.sides.left.now in
    let q = c.args.sides.right.now in
    let r = c.args.r.now in
    let case_is = connected-is c.in_ok-case.case implies_name p r p r c.requires.left.typed c.requires.r.typed refl refl c.in_ok-case.ensures in
    rw (passed_on c.from_residual-in_err-stated.result c.in_err-stated.field-0.0 c.from_residual-in_err-stated.ensures.1)
    (connected-past c.in_err-stated.field-0.0 implies_name (implication p r) (other_case q r) c.in_ok-case.case c.args.rest.now
    (connected-typed implies_name p r c.requires.left.typed c.requires.r.typed)
    (other-typed q r c.requires.right.typed c.requires.r.typed) case_is c.requires.rest c.in_err-stated.ensures room stated)

pub returns-clause-derives : goal.returns-clause-derives
returns-clause-derives c h room shown whole stated =
    let theory = c.args.recorder.now.theory in
    let p = c.args.sides.left.now in
    let q = c.args.sides.right.now in
    let r = c.args.r.now in
    let terms = c.deref.result.now in
    let premise = image (disjunction p q) in
    let case_is = connected-is c.in_ok-case.case implies_name p r p r c.requires.left.typed c.requires.r.typed refl refl c.in_ok-case.ensures in
    let stated_is : c.in_ok-stated.stated ≡ both_cases p q r =
    connected-is c.in_ok-stated.stated implies_name (implication p r) (other_case q r) c.in_ok-case.case c.args.rest.now (connected-typed implies_name p r c.requires.left.typed c.requires.r.typed)
    (other-typed q r c.requires.right.typed c.requires.r.typed) case_is c.requires.rest c.in_ok-stated.ensures in
    let terms_are : terms ≡ at_p_q_r p q r = c.deref.ensures.value ∙ c.in_ok-terms.ensures.ok in
    subst (λ (s : NamedTerm). LeadsTo theory 29 terms room premise (image s) → DerivesIf room c.by_leading_theorem.result h (image s)) stated_is
    (λ leads. c.by_leading_theorem.ensures.derives h premise room leads shown)
    (cases-leads theory p q r terms c.requires.left c.requires.right c.requires.r terms_are room whole stated)

pub by_leading_theorem-requires-clause-leads : goal.by_leading_theorem-requires-clause-leads
by_leading_theorem-requires-clause-leads c =
    let theory = c.args.recorder.now.theory in
    let p = c.args.sides.left.now in
    let q = c.args.sides.right.now in
    let r = c.args.r.now in
    let terms = c.deref.result.now in
    let case_is = connected-is c.in_ok-case.case implies_name p r p r c.requires.left.typed c.requires.r.typed refl refl c.in_ok-case.ensures in
    let stated_is : c.in_ok-stated.stated ≡ both_cases p q r =
    connected-is c.in_ok-stated.stated implies_name (implication p r) (other_case q r) c.in_ok-case.case c.args.rest.now (connected-typed implies_name p r c.requires.left.typed c.requires.r.typed)
    (other-typed q r c.requires.right.typed c.requires.r.typed) case_is c.requires.rest c.in_ok-stated.ensures in
    let terms_are : terms ≡ at_p_q_r p q r = c.deref.ensures.value ∙ c.in_ok-terms.ensures.ok in
    subst (λ (s : NamedTerm). LeadsTo theory 29 terms false (image s) (image c.in_ok-stated.stated)) (sym c.requires.whole)
    (subst (λ (s : NamedTerm). LeadsTo theory 29 terms false (image (disjunction p q)) (image s)) (sym stated_is)
    (cases-leads theory p q r terms c.requires.left c.requires.right c.requires.r terms_are false (where-no-room (image (disjunction p q))) (where-no-room (image (both_cases p q r)))))

pub by_leading_theorem-requires-clause-stated : goal.by_leading_theorem-requires-clause-stated
by_leading_theorem-requires-clause-stated c =
    let journal = c.args.recorder.now in
    let p = c.args.sides.left.now in
    let q = c.args.sides.right.now in
    let r = c.args.r.now in
    let case_is = connected-is c.in_ok-case.case implies_name p r p r c.requires.left.typed c.requires.r.typed refl refl c.in_ok-case.ensures in
    let stated_is : c.in_ok-stated.stated ≡ both_cases p q r =
    connected-is c.in_ok-stated.stated implies_name (implication p r) (other_case q r) c.in_ok-case.case c.args.rest.now (connected-typed implies_name p r c.requires.left.typed c.requires.r.typed)
    (other-typed q r c.requires.right.typed c.requires.r.typed) case_is c.requires.rest c.in_ok-stated.ensures in
    let implies : (left right : NamedTerm) → IsFormula journal.theory left → IsFormula journal.theory right → IsFormula journal.theory (implication left right) =
    λ left right one two. connects journal c.args.logic.now c.requires.logic c.theory_is_legal.ensures implies_name refl left right one two in
    made-formula journal.theory c.in_ok-stated.stated (both_cases p q r) stated_is
    (implies (implication p r) (other_case q r) (implies p r c.requires.left c.requires.r) (implies (implication q r) r (implies q r c.requires.right c.requires.r) c.requires.r))

pub returns-in_err-case-clause-continues : goal.returns-in_err-case-clause-continues
returns-in_err-case-clause-continues c = unchanged c.args.recorder.now c.from_residual.result c.from_residual.ensures.0

pub returns-in_err-stated-clause-continues : goal.returns-in_err-stated-clause-continues
returns-in_err-stated-clause-continues c = unchanged c.args.recorder.now c.from_residual-in_err-stated.result c.from_residual-in_err-stated.ensures.0

pub returns-in_err-terms-clause-continues : goal.returns-in_err-terms-clause-continues
returns-in_err-terms-clause-continues c = unchanged c.args.recorder.now c.from_residual-in_err-terms.result c.from_residual-in_err-terms.ensures.0
