use Rattle.hol_equal.proofs.StepLemmas.{passed_on}
use Rattle.hol_refine.specs.Answers.{taut_refuses, taut_answers}
use Rattle.hol_refine.proofs.Extending.{store-same}
use Rattle.hol_refine.proofs.tautologies.taut_tac.Goals as goal

pub returns-clause-outcome : goal.returns-clause-outcome
returns-clause-outcome c =
    taut_answers c.in_ok-theorem.theorem.theorem c.in_ok-theorem.ensures.outcome (store-same _ _ c.in_ok-theorem.ensures.continued)
    (rw c.in_ok-theorem.ensures.continued.theory at c.by_theorem.ensures.outcome)

pub returns-in_err-theorem-clause-outcome : goal.returns-in_err-theorem-clause-outcome
returns-in_err-theorem-clause-outcome c =
    rw (passed_on c.from_residual.result c.in_err-theorem.field-0.0 c.from_residual.ensures.1)
    (taut_refuses c.in_err-theorem.ensures.outcome (store-same _ _ c.in_err-theorem.ensures.continued))
