use Rattle.hol_equal.proofs.StepLemmas.{assume-gives}
use Rattle.hol_equal.proofs.steps.assume.Goals as goal

pub returns-clause-gives : goal.returns-clause-gives
returns-clause-gives c =
    assume-gives c.infer.result c.args.recorder.now.theory c.args.term.now c.infer.ensures.outcome
