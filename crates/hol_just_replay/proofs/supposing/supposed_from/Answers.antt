use Rattle.std.proofs.Common.{List, subst, map, Err}
use Rattle.hol_model.specs.Terms.NamedTerm.{NamedTerm}
use Rattle.hol_model.specs.Terms.Nameless.{image}
use Rattle.hol_model.specs.Logic.Theory.{Theory}
use Rattle.hol_journal.specs.Journal.{theorem_in}
use Rattle.hol_equal.specs.Inferred.{IsDrawn}
use Rattle.hol_just.specs.Steps.{goal_of}
use Rattle.hol_just_replay.specs.Accepting.{with_assumptions}
use Rattle.hol_just_replay.proofs.SupposingLemmas.{known-target, known-assumptions, contr-supposes}
use Rattle.hol_just_replay.proofs.SupposingLemmas.{contr-fits, supposing-roomy}
use Rattle.hol_equal.proofs.StepLemmas.{passed_on}
use Rattle.hol_just_replay.proofs.supposing.supposed_from.Goals as goal

pub contr_unless_known-requires-clause-known : goal.contr_unless_known-requires-clause-known
contr_unless_known-requires-clause-known c is = known-target c.args.recorder.now.theory (goal_of c.args.goal.now) (c.requires.known is)

pub returns-clause-drawn : goal.returns-clause-drawn
returns-clause-drawn c =
    contr-supposes c.args.recorder.now.theory c.args.falsity.now.theorem (goal_of c.args.goal.now) c.in_ok-theorem.theorem.theorem
    (theorem_in c.with_assumptions.result) c.requires.concludes c.in_ok-theorem.ensures.inferred
    (subst (λ (theory : Theory). IsDrawn
    (with_assumptions theory (map image c.in_ok-theorem.theorem.theorem.hypotheses)
    (image c.in_ok-theorem.theorem.theorem.conclusion) c.args.goal.now.asms.items) (theorem_in c.with_assumptions.result))
    c.in_ok-theorem.ensures.continues.theory
    (subst (λ (assumptions : List NamedTerm).
    IsDrawn (with_assumptions c.contr_unless_known.new.recorder.theory (map image c.in_ok-theorem.theorem.theorem.hypotheses)
    (image c.in_ok-theorem.theorem.theorem.conclusion) assumptions) (theorem_in c.with_assumptions.result))
    c.deref.ensures.value c.with_assumptions.ensures.drawn))

pub returns-in_err-theorem-clause-fits : goal.returns-in_err-theorem-clause-fits
returns-in_err-theorem-clause-fits c room =
    rw (passed_on c.from_residual.result c.in_err-theorem.field-0.0 c.from_residual.ensures.1) (
    contr-fits c.args.recorder.now.theory c.args.falsity.now.theorem (goal_of c.args.goal.now) (Err c.in_err-theorem.field-0.0) c.in_err-theorem.ensures.outcome room)

pub returns-clause-fits : goal.returns-clause-fits
returns-clause-fits c room =
    let roomy = supposing-roomy c.args.recorder.now.theory c.args.falsity.now.theorem c.in_ok-theorem.theorem.theorem (goal_of c.args.goal.now) c.in_ok-theorem.ensures.inferred room in
    c.with_assumptions.ensures.fits roomy.0 (rw c.deref.ensures.value roomy.1)

pub with_assumptions-requires-clause-known : goal.with_assumptions-requires-clause-known
with_assumptions-requires-clause-known c is =
    rw (c.deref.ensures.value, c.in_ok-theorem.ensures.continues.theory)
    (known-assumptions c.args.recorder.now.theory (goal_of c.args.goal.now) (c.requires.known is))
