use Rattle.std.proofs.Common.{rules, ◌≡◌, map, string_bytes, true}
use Rattle.hol_tactic_exprs.specs.Expressions.{conversion_of, leaf_of}
use Rattle.hol_host.specs.Host.{host_of}
use Rattle.hol_just.specs.Steps.{goal_of}
use Rattle.hol_refine.specs.TableAnswers.{step_in}
use Rattle.hol_theorem_library.specs.Library.{store_in}
use Rattle.hol_model.specs.Refining.Refiners as refiners
use Rattle.hol_refine.specs.Growth.{extended-same}
use Rattle.hol_refine.proofs.SpentSteps.{out-of-steps, step-spent}
use Rattle.hol_refine.proofs.Running.{by-table, by-tautology}
use Rattle.hol_refine.proofs.refining.refine.Goals as goal

pub returns-then-not-spend-clause-outcome : goal.returns-then-not-spend-clause-outcome
returns-then-not-spend-clause-outcome g c =
    out-of-steps c.args.library.now.recorder.theory (host_of (g.H.Refiners.refiners c.args.hosts.now) (g.H.Converters.conversions c.args.hosts.now))
    (store_in c.args.library.now) c.args.fuel.now.left c.spend.new.self.left (leaf_of c.args.leaf.now) (goal_of c.args.goal.now)
    (rw c.if-not-spend.true at c.spend.ensures.none)

pub returns-then-not-spend-clause-extended : goal.returns-then-not-spend-clause-extended
returns-then-not-spend-clause-extended g c = extended-same c.args.library.now

pub returns-in-Conv-clause-outcome : goal.returns-in-Conv-clause-outcome
returns-in-Conv-clause-outcome g c =
    rw c.in-Conv.is (
    step-spent c.args.library.now.recorder.theory (host_of (g.H.Refiners.refiners c.args.hosts.now) (g.H.Converters.conversions c.args.hosts.now))
    (store_in c.args.library.now) (store_in c.conv_tac.new.library) c.args.fuel.now.left c.spend.new.self.left c.conv_tac.new.fuel.left
    (refiners.conv_tac (conversion_of c.in-Conv.conv)) (goal_of c.args.goal.now) c.conv_tac.result
    (rw c.if-not-spend.false at c.spend.ensures.spent) c.conv_tac.ensures.outcome
    )

pub returns-in-Rewrite-clause-outcome : goal.returns-in-Rewrite-clause-outcome
returns-in-Rewrite-clause-outcome g c =
    rw c.in-Rewrite.is (
    step-spent c.args.library.now.recorder.theory (host_of (g.H.Refiners.refiners c.args.hosts.now) (g.H.Converters.conversions c.args.hosts.now))
    (store_in c.args.library.now) (store_in c.rewrite_tac.new.library) c.args.fuel.now.left c.spend.new.self.left c.rewrite_tac.new.fuel.left
    (refiners.rewrite_tac (map string_bytes c.in-Rewrite.names.items)) (goal_of c.args.goal.now) c.rewrite_tac.result
    (rw c.if-not-spend.false at c.spend.ensures.spent) (rw c.deref.ensures.value at c.rewrite_tac.ensures.outcome)
    )

pub returns-in-Taut-clause-outcome : goal.returns-in-Taut-clause-outcome
returns-in-Taut-clause-outcome g c =
    let host = host_of (g.H.Refiners.refiners c.args.hosts.now) (g.H.Converters.conversions c.args.hosts.now) in
    let theory = c.args.library.now.recorder.theory in
    rw c.in-Taut.is (
    step-spent theory host
    (store_in c.args.library.now) (store_in c.taut_tac.new.library) c.args.fuel.now.left c.spend.new.self.left c.spend.new.self.left
    refiners.taut_tac (goal_of c.args.goal.now) c.taut_tac.result
    (rw c.if-not-spend.false at c.spend.ensures.spent)
    (by-tautology theory host (store_in c.args.library.now) (store_in c.taut_tac.new.library) c.spend.new.self.left (goal_of c.args.goal.now) (step_in c.taut_tac.result) c.taut_tac.ensures.outcome)
    )

pub returns-in_default-clause-outcome : goal.returns-in_default-clause-outcome
returns-in_default-clause-outcome g c =
    let host = host_of (g.H.Refiners.refiners c.args.hosts.now) (g.H.Converters.conversions c.args.hosts.now) in
    let theory = c.args.library.now.recorder.theory in
    let listed : refiners.is_in_table (leaf_of c.args.leaf.now) ≡ true = search rules in
    step-spent theory host
    (store_in c.args.library.now) (store_in c.args.library.now) c.args.fuel.now.left c.spend.new.self.left c.spend.new.self.left
    (leaf_of c.args.leaf.now) (goal_of c.args.goal.now) c.leaf_step.result
    (rw c.if-not-spend.false at c.spend.ensures.spent)
    (by-table theory host (store_in c.args.library.now) c.spend.new.self.left (leaf_of c.args.leaf.now) (goal_of c.args.goal.now) (step_in c.leaf_step.result) listed (rw c.theory.ensures at c.leaf_step.ensures))

pub returns-in_default-clause-extended : goal.returns-in_default-clause-extended
returns-in_default-clause-extended g c = extended-same c.args.library.now
