use Rattle.std.proofs.Common.{refl, subst}
use Rattle.hol_model.specs.Terms.Nameless.{const, image}
use Rattle.hol_model.specs.Terms.NamedTerm.{NamedTerm}
use Rattle.hol_model.specs.Logic.Logic.{binary, implies_name}
use Rattle.hol_model.specs.Logic.NamedLogic.{implication}
use Rattle.hol_bool.proofs.RoomLemmas.{MakesConnected, connected-is, connected-past, connected-typed, fits-left}
use Rattle.hol_equal.proofs.StepLemmas.{passed_on}
use Rattle.hol_bool.proofs.disjunction_rules.other_case.Goals as goal

pub returns-in_err-case : goal.returns-in_err-case
returns-in_err-case c room q_typed r_typed fits =
    let q = c.args.q.now in
    let r = c.args.r.now in
    rw (passed_on c.from_residual.result c.in_err-case.field-0.0 c.from_residual.ensures.1)
    (connected-past c.in_err-case.field-0.0 implies_name q r q r q_typed r_typed refl refl c.in_err-case.ensures room
    (fits-left room (const implies_name binary) (image (implication q r)) (image r) fits))

pub returns : goal.returns
returns c room q_typed r_typed fits =
    let q = c.args.q.now in
    let r = c.args.r.now in
    let case_is = connected-is c.in_ok-case.case implies_name q r q r q_typed r_typed refl refl c.in_ok-case.ensures in
    subst (λ (t : NamedTerm). MakesConnected c.connect-2.result implies_name t r) case_is c.connect-2.ensures room (connected-typed implies_name q r q_typed r_typed) r_typed fits
