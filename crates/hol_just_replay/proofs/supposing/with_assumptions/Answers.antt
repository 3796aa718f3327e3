use Rattle.std.proofs.Common.{map}
use Rattle.hol_model.specs.Terms.Nameless.{image}
use Rattle.hol_just_replay.proofs.SupposingLemmas.{known-assumption, assumes-next}
use Rattle.std.proofs.Common.{Err}
use Rattle.hol_just_replay.proofs.SupposingLemmas.{assumes-fits}
use Rattle.hol_equal.proofs.StepLemmas.{passed_on}
use Rattle.hol_just_replay.proofs.supposing.with_assumptions.Goals as goal

pub add_assum_unless_known-requires-clause-known : goal.add_assum_unless_known-requires-clause-known
add_assum_unless_known-requires-clause-known c is =
    known-assumption c.loop-p.recorder.theory c.args.assumptions.now c.loop-p.p-index c.p-item.result c.loop-p-test.true c.p-item.is
    (rw c.loop-p.invariant.theory (c.requires.known is))

pub loop-p-preserved : goal.loop-p-preserved
loop-p-preserved c =
    assumes-next c.args.recorder.now c.loop-p.recorder c.add_assum_unless_known.new.recorder (map image c.args.theorem.theorem.hypotheses)
    (image c.args.theorem.theorem.conclusion) c.args.assumptions.now c.args.assumptions.now
    c.loop-p.p-index c.p-item.result c.loop-p.theorem c.in_ok-theorem.theorem c.loop-p-test.true c.p-item.is c.loop-p.invariant c.in_ok-theorem.ensures.continues c.in_ok-theorem.ensures.inferred

pub returns-in_err-theorem-clause-fits : goal.returns-in_err-theorem-clause-fits
returns-in_err-theorem-clause-fits c =
    rw (passed_on c.from_residual.result c.in_err-theorem.field-0.0 c.from_residual.ensures.1) (
    assumes-fits c.args.recorder.now c.loop-p.recorder (map image c.args.theorem.theorem.hypotheses) (image c.args.theorem.theorem.conclusion) c.args.assumptions.now c.args.assumptions.now
    c.loop-p.p-index c.p-item.result c.loop-p.theorem (Err c.in_err-theorem.field-0.0) c.loop-p-test.true c.p-item.is c.loop-p.invariant c.in_err-theorem.ensures.outcome)
