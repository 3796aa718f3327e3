use Rattle.std.proofs.Common.{refl, subst, Ok, Err}
use Rattle.hol_model.specs.Goals.Justifications.{Justification}
use Rattle.std.proofs.lemmas.Result.{err_from_is_err_and}
use Rattle.hol_just.specs.Steps.{goal_of}
use Rattle.hol_just.specs.Growing.{grown_tree}
use Rattle.hol_goals.specs.Stages.{attempt_of}
use Rattle.hol_goals.specs.Expansions.{IsProof, Proves}
use Rattle.hol_goals.proofs.Expansions.{finishes}
use Rattle.hol_goals.proofs.Made.{attempt_stays}
use Rattle.hol_goals.proofs.attempt.Attempt.finish.Goals as goal

pub returns-clause-outcome : goal.returns-clause-outcome
returns-clause-outcome g c =
    finishes (g.P.Leaves.theory c.args.prover.now) (g.P.Leaves.store c.args.prover.now) (goal_of c.args.self.now.goal) (grown_tree c.args.just.now)
    (attempt_of c.args.self.now) (attempt_of c.conclude.new.self) c.in_ok-theorem.theorem.theorem c.conclude.result
    (subst (λ (tree : Justification). IsProof (g.P.Leaves.theory c.args.prover.now) (g.P.Leaves.store c.args.prover.now) (goal_of c.args.self.now.goal) tree (Ok c.in_ok-theorem.theorem.theorem))
    c.in_ok-whole.ensures.tree c.in_ok-theorem.ensures.outcome) c.conclude.ensures.reaches

pub returns-in_err-theorem-clause-outcome : goal.returns-in_err-theorem-clause-outcome
returns-in_err-theorem-clause-outcome g c =
    let p = err_from_is_err_and c.from_residual-in_err-theorem.result c.from_residual-in_err-theorem.ensures.1 in
    rw (p.1, p.2) (
      subst (λ (tree : Justification). Proves (g.P.Leaves.theory c.args.prover.now) (g.P.Leaves.store c.args.prover.now) (goal_of c.args.self.now.goal) tree (Err c.in_err-theorem.field-0.0))
          c.in_ok-whole.ensures.tree c.in_err-theorem.ensures.outcome,
      refl,
    )

pub returns-in_err-theorem-clause-made : goal.returns-in_err-theorem-clause-made
returns-in_err-theorem-clause-made g c =
    attempt_stays (g.P.Prover.journal c.args.prover.now) (g.P.Prover.journal c.prove.new.self) c.args.self.now c.in_err-theorem.ensures.stays

pub returns-clause-made : goal.returns-clause-made
returns-clause-made g c = λ kept.
    c.conclude.ensures.made (g.P.Prover.journal c.prove.new.self) c.in_ok-theorem.ensures.made
    (attempt_stays (g.P.Prover.journal c.args.prover.now) (g.P.Prover.journal c.prove.new.self) c.args.self.now c.in_ok-theorem.ensures.stays kept)
