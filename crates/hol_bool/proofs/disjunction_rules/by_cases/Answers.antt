use Rattle.std.proofs.Common.{◌≡◌, ◌∙◌, List, ◌++◌, false, Ok, IfOk, sym, ap, subst}
use Rattle.hol_model.specs.Terms.Nameless.{Nameless, image}
use Rattle.hol_model.specs.Terms.NamedTerm.{NamedTerm}
use Rattle.hol_model.specs.Logic.Derivable.{without}
use Rattle.hol_model.specs.Logic.Logic as nameless
use Rattle.hol_model.specs.Logic.NamedLogic.{disjunction}
use Rattle.hol_model.specs.Derived.DerivedRules.{images}
use Rattle.hol_equal.specs.Room.{FitsIf}
use Rattle.hol_equal.specs.Sequents.{Shows, DerivesIf}
use Rattle.hol_equal.specs.Formulas.{IsFormula}
use Rattle.hol_bool.specs.Disjunctions.{LeavesRoomIf, both_cases}
use Rattle.hol_equal.proofs.CutLemmas.{shows-itself}
use Rattle.hol_bool.proofs.ConjunctionAnswers.{mp_equation}
use Rattle.hol_bool.proofs.ImplicationAnswers.{disch-fits}
use Rattle.hol_bool.proofs.PreludeSteps.{still_formula, where-no-room}
use Rattle.hol_bool.proofs.DisjunctionAnswers.{other-is, other-formula, disjunction-fits, other-fits, both-fits, first-case-fits, second-case-fits}
use Rattle.hol_bool.proofs.Passing.{unchanged}
use Rattle.hol_equal.proofs.StepLemmas.{passed_on, still_made}
use Rattle.hol_bool.proofs.disjunction_rules.by_cases.Goals as goal

pub returns-in_err-rest-clause-derives : goal.returns-in_err-rest-clause-derives
returns-in_err-rest-clause-derives c h i j s room theorem first second left_room right_room s_room =
    let q = image c.args.sides.right.now in
    let concluded = c.conclusion_of-r.ensures in
    let r = c.conclusion_of-r.result.now in
    let formula : IsFormula c.args.recorder.now.theory r = subst (λ (t : NamedTerm). IsFormula c.args.recorder.now.theory t) (sym concluded.value) concluded.formula in
    let r_is : image r ≡ s = ap image concluded.value ∙ first.concludes in
    rw (passed_on c.from_residual.result c.in_err-rest.field-0.0 c.from_residual.ensures.1)
    (c.in_err-rest.ensures room c.requires.right.typed formula.typed
    (other-fits room q (image r) right_room (subst (λ (t : Nameless). LeavesRoomIf room t) (sym r_is) s_room)))

pub disj_cases_in_room-requires-clause-r : goal.disj_cases_in_room-requires-clause-r
disj_cases_in_room-requires-clause-r c =
    let concluded = c.conclusion_of-r.ensures in
    subst (λ (t : NamedTerm). IsFormula c.args.recorder.now.theory t) (sym concluded.value) concluded.formula

pub disj_cases_in_room-requires-clause-rest : goal.disj_cases_in_room-requires-clause-rest
disj_cases_in_room-requires-clause-rest c =
    let concluded = c.conclusion_of-r.ensures in
    let formula : IsFormula c.args.recorder.now.theory c.conclusion_of-r.result.now = subst (λ (t : NamedTerm). IsFormula c.args.recorder.now.theory t) (sym concluded.value) concluded.formula in
    other-is c.in_ok-rest.rest c.args.sides.right.now c.conclusion_of-r.result.now c.requires.right.typed formula.typed c.in_ok-rest.ensures

pub returns-in_err-cases-clause-derives : goal.returns-in_err-cases-clause-derives
returns-in_err-cases-clause-derives c h i j s room theorem first second left_room right_room s_room =
    let p = image c.args.sides.left.now in
    let q = image c.args.sides.right.now in
    let r = image c.conclusion_of-r.result.now in
    let r_is : r ≡ s = ap image c.conclusion_of-r.ensures.value ∙ first.concludes in
    rw (passed_on c.from_residual-in_err-cases.result c.in_err-cases.field-0.0 c.from_residual-in_err-cases.ensures.1)
    (c.in_err-cases.ensures.derives h room theorem (disjunction-fits room p q left_room right_room)
    (both-fits room p q r left_room right_room (subst (λ (t : Nameless). LeavesRoomIf room t) (sym r_is) s_room)))

pub with_case-requires-clause-consequent : goal.with_case-requires-clause-consequent
with_case-requires-clause-consequent c =
    let concluded = c.conclusion_of-r.ensures in
    let r = c.conclusion_of-r.result.now in
    let formula : IsFormula c.args.recorder.now.theory r = subst (λ (t : NamedTerm). IsFormula c.args.recorder.now.theory t) (sym concluded.value) concluded.formula in
    let rest_is = other-is c.in_ok-rest.rest c.args.sides.right.now r c.requires.right.typed formula.typed c.in_ok-rest.ensures in
    still_formula c.args.recorder.now c.disj_cases_in_room.new.recorder (Ok c.in_ok-cases.cases) c.in_ok-rest.rest c.in_ok-cases.ensures.continues
    (other-formula c.args.recorder.now c.args.logic.now c.requires.logic concluded.legal c.in_ok-rest.rest c.args.sides.right.now r rest_is c.requires.right formula)

pub with_case-requires-clause-fits : goal.with_case-requires-clause-fits
with_case-requires-clause-fits c =
    let concluded = c.conclusion_of-r.ensures in
    let theorem = c.args.theorem.now.theorem in
    let p = c.args.sides.left.now in
    let q = c.args.sides.right.now in
    let r = c.conclusion_of-r.result.now in
    let formula : IsFormula c.args.recorder.now.theory r = subst (λ (t : NamedTerm). IsFormula c.args.recorder.now.theory t) (sym concluded.value) concluded.formula in
    let rest_is = other-is c.in_ok-rest.rest q r c.requires.right.typed formula.typed c.in_ok-rest.ensures in
    let whole = subst (λ (t : NamedTerm). Shows theorem (images theorem) (image t)) c.requires.whole (shows-itself theorem) in
    let cases : Shows c.in_ok-cases.cases.theorem (images theorem) (image (both_cases p q r)) =
    c.in_ok-cases.ensures.derives (images theorem) false whole (where-no-room (image (disjunction p q))) (where-no-room (image (both_cases p q r))) in
    cases.concludes ∙ (λ i. nameless.implication (nameless.implication (image p) (image (concluded.value i))) (image (sym rest_is i)))

pub with_case-requires-2-clause-fits : goal.with_case-requires-2-clause-fits
with_case-requires-2-clause-fits c =
    let concluded = c.conclusion_of-r.ensures in
    let q = c.args.sides.right.now in
    let r = c.conclusion_of-r.result.now in
    let formula : IsFormula c.args.recorder.now.theory r = subst (λ (t : NamedTerm). IsFormula c.args.recorder.now.theory t) (sym concluded.value) concluded.formula in
    let rest_is = other-is c.in_ok-rest.rest q r c.requires.right.typed formula.typed c.in_ok-rest.ensures in
    let met : image r ≡ image c.args.second.now.theorem.conclusion = ap image concluded.value ∙ c.requires.meet in
    ap image (c.in_ok-other.ensures.names ∙ rest_is) ∙ ap (λ (u : Nameless). nameless.implication (nameless.implication (image q) u) (image r)) met

pub with_case-requires-2-clause-case : goal.with_case-requires-2-clause-case
with_case-requires-2-clause-case c =
    still_made c.disj_cases_in_room.new.recorder c.with_case.new.recorder (Ok c.in_ok-other.other) c.args.second.now c.in_ok-other.ensures.continues
    (still_made c.args.recorder.now c.disj_cases_in_room.new.recorder (Ok c.in_ok-cases.cases) c.args.second.now c.in_ok-cases.ensures.continues c.requires.second)

pub returns-in_err-other-clause-derives : goal.returns-in_err-other-clause-derives
returns-in_err-other-clause-derives c h i j s room theorem first second left_room right_room s_room =
    let concluded = c.conclusion_of-r.ensures in
    let p = image c.args.sides.left.now in
    let q = image c.args.sides.right.now in
    let term = c.conclusion_of-r.result.now in
    let r = image term in
    let formula : IsFormula c.args.recorder.now.theory term = subst (λ (t : NamedTerm). IsFormula c.args.recorder.now.theory t) (sym concluded.value) concluded.formula in
    let rest_is = other-is c.in_ok-rest.rest c.args.sides.right.now term c.requires.right.typed formula.typed c.in_ok-rest.ensures in
    let r_is : r ≡ s = ap image concluded.value ∙ first.concludes in
    let r_room = subst (λ (t : Nameless). LeavesRoomIf room t) (sym r_is) s_room in
    let cases = c.in_ok-cases.ensures.derives h room theorem (disjunction-fits room p q left_room right_room) (both-fits room p q r left_room right_room r_room) in
    let here = subst (λ (t : Nameless). Shows c.args.first.now.theorem i t) (sym r_is) first in
    rw (passed_on c.from_residual-in_err-other.result c.in_err-other.field-0.0 c.from_residual-in_err-other.ensures.1)
    (c.in_err-other.ensures.derives h i r room
    (subst (λ (t : NamedTerm). Shows c.in_ok-cases.cases.theorem h (nameless.implication (nameless.implication p r) (image t)))
    (sym rest_is) cases) here
    (disch-fits room p r left_room r_room)
    (subst (λ (t : NamedTerm). FitsIf room (mp_equation (nameless.implication p r) (image t))) (sym rest_is) (first-case-fits room p q r left_room right_room r_room)))

pub with_case-requires-2-clause-consequent : goal.with_case-requires-2-clause-consequent
with_case-requires-2-clause-consequent c =
    let concluded = c.conclusion_of-r.ensures in
    let r = c.conclusion_of-r.result.now in
    let formula : IsFormula c.args.recorder.now.theory r = subst (λ (t : NamedTerm). IsFormula c.args.recorder.now.theory t) (sym concluded.value) concluded.formula in
    still_formula c.disj_cases_in_room.new.recorder c.with_case.new.recorder (Ok c.in_ok-other.other) r c.in_ok-other.ensures.continues
    (still_formula c.args.recorder.now c.disj_cases_in_room.new.recorder (Ok c.in_ok-cases.cases) r c.in_ok-cases.ensures.continues formula)

pub returns-clause-names : goal.returns-clause-names
returns-clause-names c =
    subst (λ (t : NamedTerm). IfOk c.with_case-2.result (λ made. made.theorem.conclusion ≡ t)) c.conclusion_of-r.ensures.value c.with_case-2.ensures.names

pub returns-clause-derives : goal.returns-clause-derives
returns-clause-derives c h i j s room theorem first second left_room right_room s_room =
    let concluded = c.conclusion_of-r.ensures in
    let p = image c.args.sides.left.now in
    let q = image c.args.sides.right.now in
    let term = c.conclusion_of-r.result.now in
    let r = image term in
    let formula : IsFormula c.args.recorder.now.theory term = subst (λ (t : NamedTerm). IsFormula c.args.recorder.now.theory t) (sym concluded.value) concluded.formula in
    let rest_is = other-is c.in_ok-rest.rest c.args.sides.right.now term c.requires.right.typed formula.typed c.in_ok-rest.ensures in
    let r_is : r ≡ s = ap image concluded.value ∙ first.concludes in
    let r_room = subst (λ (t : Nameless). LeavesRoomIf room t) (sym r_is) s_room in
    let cases = c.in_ok-cases.ensures.derives h room theorem (disjunction-fits room p q left_room right_room) (both-fits room p q r left_room right_room r_room) in
    let one = subst (λ (t : Nameless). Shows c.args.first.now.theorem i t) (sym r_is) first in
    let two = subst (λ (t : Nameless). Shows c.args.second.now.theorem j t) (sym r_is) second in
    let left : List Nameless = without p i ++ h in
    let other =
    c.in_ok-other.ensures.derives h i r room
    (subst (λ (t : NamedTerm). Shows c.in_ok-cases.cases.theorem h (nameless.implication (nameless.implication p r) (image t)))
    (sym rest_is) cases) one
    (disch-fits room p r left_room r_room)
    (subst (λ (t : NamedTerm). FitsIf room (mp_equation (nameless.implication p r) (image t))) (sym rest_is) (first-case-fits room p q r left_room right_room r_room)) in
    subst (λ (t : Nameless). DerivesIf room c.with_case-2.result (without q j ++ left) t) r_is
    (c.with_case-2.ensures.derives left j r room (subst (λ (t : NamedTerm). Shows c.in_ok-other.other.theorem left (image t)) rest_is other) two
    (disch-fits room q r right_room r_room) (second-case-fits room q r right_room r_room))

pub returns-in_err-rest-clause-continues : goal.returns-in_err-rest-clause-continues
returns-in_err-rest-clause-continues c = unchanged c.args.recorder.now c.from_residual.result c.from_residual.ensures.0
