use Rattle.hol_model.specs.Terms.Nameless.{image}
use Rattle.hol_model.specs.Logic.Logic as nameless
use Rattle.hol_equal.proofs.StepLemmas.{continues-twice, still_made}
use Rattle.hol_equal.proofs.StepLemmas.{passed_on}
use Rattle.hol_taut.proofs.denial.denied_by.Goals as goal

pub from_falsity-requires-clause-laws : goal.from_falsity-requires-clause-laws
from_falsity-requires-clause-laws c = c.requires.laws

pub from_falsity-requires-clause-formula : goal.from_falsity-requires-clause-formula
from_falsity-requires-clause-formula c = c.requires.formula

pub returns-in_err-given-clause-continues : goal.returns-in_err-given-clause-continues
returns-in_err-given-clause-continues c =
    rw (passed_on c.from_residual.result c.in_err-given.field-0.0 c.from_residual.ensures.1) (
    c.in_err-given.ensures.continues)

pub returns-in_err-given-clause-proves : goal.returns-in_err-given-clause-proves
returns-in_err-given-clause-proves c =
    rw (passed_on c.from_residual.result c.in_err-given.field-0.0 c.from_residual.ensures.1) (
    λ allowed room fits equation absurd. c.in_err-given.ensures.proves allowed room fits)

pub by_both-requires-clause-first : goal.by_both-requires-clause-first
by_both-requires-clause-first c = c.in_ok-given.ensures.continues.held.made

pub by_both-requires-clause-second : goal.by_both-requires-clause-second
by_both-requires-clause-second c = still_made c.args.recorder.now c.from_falsity.new.recorder c.from_falsity.result c.args.absurd.now c.from_falsity.ensures.continues c.requires.absurd.made

pub returns-clause-continues : goal.returns-clause-continues
returns-clause-continues c = continues-twice c.args.recorder.now c.from_falsity.new.recorder c.by_both.new.recorder c.from_falsity.result c.by_both.result
    c.from_falsity.ensures.continues c.by_both.ensures.continues

pub returns-clause-proves : goal.returns-clause-proves
returns-clause-proves c = λ allowed room fits equation absurd.
    c.by_both.ensures.proves allowed (image c.args.p.now) nameless.false_term room equation (c.in_ok-given.ensures.proves allowed room fits) absurd
