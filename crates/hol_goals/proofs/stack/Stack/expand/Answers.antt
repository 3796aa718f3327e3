use Rattle.std.proofs.lemmas.Result.{err_from_is_err_and}
use Rattle.hol_model.specs.Refining.Combinators.{at}
use Rattle.hol_tactic_exprs.specs.Expressions.{tactic_of}
use Rattle.hol_host.specs.Host.{host_of}
use Rattle.hol_goals.specs.Stages.{stack_of}
use Rattle.hol_goals.proofs.Running.{refused-first, stack-later, expanded-to, valid-after, refused-itself, closes-if-valid}
use Rattle.hol_goals.proofs.Made.{kept_stay_made}
use Rattle.hol_goals.proofs.stack.Stack.expand.Goals as goal

pub returns-in_err-refinement-clause-expanded : goal.returns-in_err-refinement-clause-expanded
returns-in_err-refinement-clause-expanded g c =
    let p = err_from_is_err_and c.from_residual.result c.from_residual.ensures.1 in
    rw (p.1, p.2)
    (refused-first (g.P.Leaves.theory c.args.prover.now) (host_of (g.H.Refiners.refiners c.args.host.now) (g.H.Converters.conversions c.args.host.now))
    (at (g.P.Leaves.store c.args.prover.now) c.args.fuel.now.left) (tactic_of c.args.tac.now)
    (at (g.P.Leaves.store c.refine_first.new.prover) c.refine_first.new.fuel.left) (stack_of c.args.self.now) c.in_err-refinement.field-0.0 c.in_err-refinement.ensures.runs)

pub returns-in_err-refinement-clause-closing : goal.returns-in_err-refinement-clause-closing
returns-in_err-refinement-clause-closing g c =
    let p = err_from_is_err_and c.from_residual.result c.from_residual.ensures.1 in
    rw (p.1, p.2)
    (refused-itself (g.H.Refiners.refiners c.args.host.now) (g.H.Converters.conversions c.args.host.now) (g.P.Leaves.theory c.args.prover.now)
    (g.P.Leaves.store c.args.prover.now) (g.P.Leaves.store c.refine_first.new.prover) c.args.fuel.now.left c.refine_first.new.fuel.left c.args.tac.now
    (stack_of c.args.self.now) c.in_err-refinement.field-0.0 c.in_err-refinement.ensures.runs)

pub returns-clause-closing : goal.returns-clause-closing
returns-clause-closing g c =
    closes-if-valid (g.H.Refiners.refiners c.args.host.now) (g.H.Converters.conversions c.args.host.now) (g.P.Leaves.theory c.args.prover.now)
    (g.P.Leaves.theory c.refine_first.new.prover) (g.P.Leaves.store c.args.prover.now) (g.P.Leaves.store c.refine_first.new.prover) (g.P.Leaves.store c.expand_by.new.prover)
    c.args.fuel.now.left c.refine_first.new.fuel.left c.args.tac.now c.in_ok-refinement.refinement (stack_of c.args.self.now) (stack_of c.expand_by.new.self) c.expand_by.result
    c.in_ok-refinement.ensures.theory c.requires.legal c.in_ok-refinement.ensures.later c.requires.valid c.in_ok-refinement.ensures.good c.in_ok-refinement.ensures.runs c.expand_by.ensures.outcome

pub returns-in_err-refinement-clause-valid : goal.returns-in_err-refinement-clause-valid
returns-in_err-refinement-clause-valid g c =
    stack-later (g.P.Leaves.theory c.args.prover.now) c.requires.legal (at (g.P.Leaves.store c.args.prover.now) c.args.fuel.now.left)
    (at (g.P.Leaves.store c.refine_first.new.prover) c.refine_first.new.fuel.left) (stack_of c.args.self.now) c.in_err-refinement.ensures.later c.requires.valid

pub returns-clause-expanded : goal.returns-clause-expanded
returns-clause-expanded g c =
    expanded-to (g.H.Refiners.refiners c.args.host.now) (g.H.Converters.conversions c.args.host.now) (g.P.Leaves.theory c.args.prover.now)
    (g.P.Leaves.store c.args.prover.now) (g.P.Leaves.store c.refine_first.new.prover) c.args.fuel.now.left c.refine_first.new.fuel.left c.args.tac.now
    (g.P.Leaves.theory c.refine_first.new.prover) (g.P.Leaves.store c.expand_by.new.prover) c.in_ok-refinement.refinement (stack_of c.args.self.now) (stack_of c.expand_by.new.self) c.expand_by.result
    c.in_ok-refinement.ensures.theory c.expand_by.ensures.store c.requires.legal c.in_ok-refinement.ensures.later c.requires.valid c.in_ok-refinement.ensures.good c.in_ok-refinement.ensures.runs c.expand_by.ensures.outcome

pub returns-clause-valid : goal.returns-clause-valid
returns-clause-valid g c =
    valid-after (g.P.Leaves.theory c.args.prover.now) (g.P.Leaves.theory c.refine_first.new.prover) (g.P.Leaves.store c.args.prover.now) (g.P.Leaves.store c.refine_first.new.prover)
    (g.P.Leaves.store c.expand_by.new.prover) c.args.fuel.now.left c.refine_first.new.fuel.left c.in_ok-refinement.refinement (stack_of c.args.self.now) (stack_of c.expand_by.new.self) c.expand_by.result
    c.in_ok-refinement.ensures.theory c.expand_by.ensures.store c.requires.legal c.in_ok-refinement.ensures.later c.requires.valid c.in_ok-refinement.ensures.good c.expand_by.ensures.outcome

pub returns-in_err-refinement-clause-made : goal.returns-in_err-refinement-clause-made
returns-in_err-refinement-clause-made g c =
    kept_stay_made (g.P.Prover.journal c.args.prover.now) (g.P.Prover.journal c.refine_first.new.prover) c.args.self.now c.in_err-refinement.ensures.stays

pub returns-clause-made : goal.returns-clause-made
returns-clause-made g c = λ kept.
    c.expand_by.ensures.made (kept_stay_made (g.P.Prover.journal c.args.prover.now) (g.P.Prover.journal c.refine_first.new.prover) c.args.self.now c.in_ok-refinement.ensures.stays kept)
