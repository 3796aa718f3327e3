use Rattle.std.proofs.Common.{sym, subst}
use Rattle.hol_model.specs.Terms.Nameless.{image}
use Rattle.hol_model.specs.Logic.Theory.{Theory}
use Rattle.hol_equal.specs.Formulas.{IsFormula}
use Rattle.hol_equal.proofs.StepLemmas.{continues-twice, passed_on}
use Rattle.hol_taut.proofs.TautAnswers.{continues-unchanged, past-answers, whatever-room, named-answers}
use Rattle.hol_taut.proofs.tautology.taut.Goals as goal

pub returns-in_err-denied-clause-continues : goal.returns-in_err-denied-clause-continues
returns-in_err-denied-clause-continues c =
    rw (passed_on c.from_residual.result c.in_err-denied.field-0.0 c.from_residual.ensures.1) (
    continues-unchanged c.args.recorder.now c.in_err-denied.field-0.0)

pub returns-in_err-denied-clause-outcome : goal.returns-in_err-denied-clause-outcome
returns-in_err-denied-clause-outcome c =
    rw (passed_on c.from_residual.result c.in_err-denied.field-0.0 c.from_residual.ensures.1) c.in_err-denied.ensures.err

pub deny-requires : goal.deny-requires
deny-requires c = record { laws = c.requires.laws }

pub proved-requires-clause-laws : goal.proved-requires-clause-laws
proved-requires-clause-laws c = c.requires.laws

pub proved-requires-clause-denied : goal.proved-requires-clause-denied
proved-requires-clause-denied c = c.in_ok-denied.ensures.ok

pub returns-in_err-made-clause-continues : goal.returns-in_err-made-clause-continues
returns-in_err-made-clause-continues c =
    rw (passed_on c.from_residual-in_err-made.result c.in_err-made.field-0.0 c.from_residual-in_err-made.ensures.1) (
    c.in_err-made.ensures.continues)

pub returns-in_err-made-clause-outcome : goal.returns-in_err-made-clause-outcome
returns-in_err-made-clause-outcome c =
    let is = c.in_ok-denied.ensures.ok in
    rw (passed_on c.from_residual-in_err-made.result c.in_err-made.field-0.0 c.from_residual-in_err-made.ensures.1) (
    past-answers c.args.recorder.now.theory c.args.term.now c.in_err-made.field-0.0 is.passed is.accepted c.in_err-made.ensures.proves)

pub named_same-requires-clause-premise : goal.named_same-requires-clause-premise
named_same-requires-clause-premise c = c.in_ok-made.ensures.continues.held

pub named_same-requires-clause-formula : goal.named_same-requires-clause-formula
named_same-requires-clause-formula c = subst (λ (t : Theory). IsFormula t c.args.term.now) (sym c.in_ok-made.ensures.continues.theory) c.in_ok-denied.ensures.ok.passed.formula

pub named_same-requires-clause-same : goal.named_same-requires-clause-same
named_same-requires-clause-same c = (whatever-room c.in_ok-made.made.theorem (image c.args.term.now) c.in_ok-made.ensures.proves).concludes

pub returns-clause-continues : goal.returns-clause-continues
returns-clause-continues c =
    continues-twice c.args.recorder.now c.proved.new.recorder c.named_same.new.recorder c.proved.result c.named_same.result c.proved.ensures.continues c.named_same.ensures.continues

pub returns-clause-outcome : goal.returns-clause-outcome
returns-clause-outcome c =
    let is = c.in_ok-denied.ensures.ok in
    named-answers c.args.recorder.now.theory c.args.term.now c.in_ok-made.made.theorem c.named_same.result is.passed is.accepted
    c.in_ok-made.ensures.proves c.named_same.ensures.names c.named_same.ensures.derives
