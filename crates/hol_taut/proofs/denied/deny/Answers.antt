use Rattle.std.proofs.Common.{false, refl}
use Rattle.hol_model.specs.Logic.NamedLogic.{false_term}
use Rattle.hol_model.specs.Terms.Nameless.{image}
use Rattle.hol_model.specs.Propositional.Tautologies.{tautology_outcome}
use Rattle.hol_bool.proofs.RoomLemmas.{equation-is, equation-past}
use Rattle.hol_equal.proofs.StepLemmas.{passed_on}
use Rattle.hol_taut.proofs.WayLemmas.{fact-fits}
use Rattle.hol_taut.proofs.TautAnswers.{memory-answers, refused-answers, falsity-answers, past-answers, denial-formula}
use Rattle.hol_taut.proofs.denied.deny.Goals as goal

pub returns-in_err-pass_formula-clause-ok : goal.returns-in_err-pass_formula-clause-ok
returns-in_err-pass_formula-clause-ok c = rw (passed_on c.from_residual.result c.in_err-pass_formula.field-0.0 c.from_residual.ensures.1) tt

pub returns-in_err-pass_formula-clause-err : goal.returns-in_err-pass_formula-clause-err
returns-in_err-pass_formula-clause-err c =
    rw (passed_on c.from_residual.result c.in_err-pass_formula.field-0.0 c.from_residual.ensures.1) (
    refused-answers c.args.recorder.now.theory c.args.term.now c.in_err-pass_formula.field-0.0 c.in_err-pass_formula.ensures.err)

pub returns-in_err-atoms-clause-ok : goal.returns-in_err-atoms-clause-ok
returns-in_err-atoms-clause-ok c = rw (passed_on c.from_residual-in_err-atoms.result c.in_err-atoms.field-0.0 c.from_residual-in_err-atoms.ensures.1) tt

pub returns-in_err-atoms-clause-err : goal.returns-in_err-atoms-clause-err
returns-in_err-atoms-clause-err c =
    rw (passed_on c.from_residual-in_err-atoms.result c.in_err-atoms.field-0.0 c.from_residual-in_err-atoms.ensures.1) (
    falsity-answers c.args.recorder.now.theory c.args.term.now c.in_err-atoms.field-0.0 c.in_ok-pass_formula.ensures.ok c.in_err-atoms.ensures)

pub returns-in_err-falsity-clause-ok : goal.returns-in_err-falsity-clause-ok
returns-in_err-falsity-clause-ok c = rw (passed_on c.from_residual-in_err-falsity.result c.in_err-falsity.field-0.0 c.from_residual-in_err-falsity.ensures.1) tt

pub returns-in_err-falsity-clause-err : goal.returns-in_err-falsity-clause-err
returns-in_err-falsity-clause-err c =
    rw (passed_on c.from_residual-in_err-falsity.result c.in_err-falsity.field-0.0 c.from_residual-in_err-falsity.ensures.1) (
    memory-answers c.in_err-falsity.field-0.0 (image c.args.term.now) (tautology_outcome c.args.recorder.now.theory c.args.term.now) c.in_err-falsity.ensures.err)

pub returns-in_err-denial-clause-ok : goal.returns-in_err-denial-clause-ok
returns-in_err-denial-clause-ok c = rw (passed_on c.from_residual-in_err-denial.result c.in_err-denial.field-0.0 c.from_residual-in_err-denial.ensures.1) tt

pub returns-in_err-denial-clause-err : goal.returns-in_err-denial-clause-err
returns-in_err-denial-clause-err c =
    rw (passed_on c.from_residual-in_err-denial.result c.in_err-denial.field-0.0 c.from_residual-in_err-denial.ensures.1) (
    let a = c.args.term.now in
    let passed = c.in_ok-pass_formula.ensures.ok in
    past-answers c.args.recorder.now.theory a c.in_err-denial.field-0.0 passed c.in_ok-atoms.ensures.0
    (λ room small. equation-past c.in_err-denial.field-0.0 a false_term a c.in_ok-falsity.falsity passed.formula.typed refl refl c.in_ok-falsity.ensures.ok
    c.in_err-denial.ensures room (fact-fits false room (image a) small)))

pub returns-clause-ok : goal.returns-clause-ok
returns-clause-ok c =
    let a = c.args.term.now in
    let passed = c.in_ok-pass_formula.ensures.ok in
    let is = equation-is c.in_ok-denial.denial a false_term a c.in_ok-falsity.falsity passed.formula.typed refl refl c.in_ok-falsity.ensures.ok c.in_ok-denial.ensures in
    record {
      passed = passed;
      accepted = c.in_ok-atoms.ensures.0;
      denial = is;
      denies = denial-formula c.args.recorder.now c.args._laws.now a c.in_ok-denial.denial c.requires.laws c.theory_is_legal.ensures passed.formula is;
      atoms = c.in_ok-atoms.ensures.1;
    }

pub returns-clause-err : goal.returns-clause-err
returns-clause-err c = tt
