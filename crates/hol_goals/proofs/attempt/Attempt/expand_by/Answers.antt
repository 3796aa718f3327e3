use Rattle.std.proofs.Common.{rules}
use Rattle.hol_just.specs.Steps.{step_of}
use Rattle.hol_goals.specs.Stages.{attempt_of}
use Rattle.hol_goals.proofs.Expansions.{is_refused, proceeds, closes_goal}
use Rattle.std.proofs.lemmas.Result.{err_from_is_err_and}
use Rattle.hol_goals.proofs.attempt.Attempt.expand_by.Goals as goal

pub returns-in_err-state-clause-outcome : goal.returns-in_err-state-clause-outcome
returns-in_err-state-clause-outcome g c =
    let p = err_from_is_err_and c.from_residual.result c.from_residual.ensures.1 in
    rw (p.1, p.2)
    (is_refused (g.P.Leaves.theory c.args.prover.now) (g.P.Leaves.store c.args.prover.now) (step_of c.args.refinement) (attempt_of c.args.self.now) c.in_err-state.field-0.0 c.in_err-state.ensures)

pub returns-then-is_empty-clause-outcome : goal.returns-then-is_empty-clause-outcome
returns-then-is_empty-clause-outcome g c =
    closes_goal (g.P.Leaves.theory c.args.prover.now) (g.P.Leaves.store c.args.prover.now) (step_of c.args.refinement) c.args.self.now (attempt_of c.finish.new.self) c.in_ok-state.state c.finish.result
    (search rules) c.in_ok-state.ensures c.finish.ensures.outcome

pub returns-clause-outcome : goal.returns-clause-outcome
returns-clause-outcome g c =
    proceeds (g.P.Leaves.theory c.args.prover.now) (g.P.Leaves.store c.args.prover.now) (step_of c.args.refinement) c.args.self.now (attempt_of c.proceed.new.self) c.in_ok-state.state c.proceed.result
    (search rules) c.in_ok-state.ensures c.proceed.ensures.reaches

pub returns-clause-made : goal.returns-clause-made
returns-clause-made g c = c.proceed.ensures.made (g.P.Prover.journal c.args.prover.now)
