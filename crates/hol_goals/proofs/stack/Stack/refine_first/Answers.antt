use Rattle.std.proofs.Common.{refl}
use Rattle.std.proofs.lemmas.Result.{err_from_is_err_and}
use Rattle.hol_model.specs.Refining.Combinators.{at}
use Rattle.hol_model.specs.Goals.GoalStates.{focus_outcome}
use Rattle.hol_tactic_exprs.specs.Expressions.{tactic_of}
use Rattle.hol_host.specs.Host.{host_of}
use Rattle.hol_just.specs.Steps.{goal_of}
use Rattle.hol_combine.specs.Answers.{answer_of}
use Rattle.hol_goals.specs.Stages.{stack_of}
use Rattle.hol_goals.specs.Running.{none_is_open}
use Rattle.hol_goals.proofs.Running.{no_focus, runs-first}
use Rattle.hol_goals.proofs.stack.Stack.refine_first.Goals as goal

pub returns-in_err-goal-clause-runs : goal.returns-in_err-goal-clause-runs
returns-in_err-goal-clause-runs g c =
    let p = err_from_is_err_and c.from_residual.result c.from_residual.ensures.1 in
    rw (p.1, p.2)
    (none_is_open c.in_err-goal.field-0.0 (no_focus (focus_outcome (stack_of c.args.self.now).proof) c.in_err-goal.field-0.0 c.in_err-goal.ensures) refl)

pub returns-clause-runs : goal.returns-clause-runs
returns-clause-runs g c =
    runs-first (g.P.Leaves.theory c.args.prover.now) (host_of (g.H.Refiners.refiners c.args.host.now) (g.H.Converters.conversions c.args.host.now))
    (at (g.P.Leaves.store c.args.prover.now) c.args.fuel.now.left) (at (g.P.Leaves.store c.refine_goal.new.leaves) c.refine_goal.new.fuel.left)
    (tactic_of c.args.tac.now) (focus_outcome (stack_of c.args.self.now).proof) (goal_of c.in_ok-goal.goal.now) (answer_of c.refine_goal.result)
    c.in_ok-goal.ensures c.refine_goal.ensures.outcome
