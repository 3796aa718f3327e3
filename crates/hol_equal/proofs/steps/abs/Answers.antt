use Rattle.hol_equal.proofs.StepLemmas.{abs-derives, abs-concludes}
use Rattle.hol_equal.proofs.steps.abs.Goals as goal

pub returns-clause-derives : goal.returns-clause-derives
returns-clause-derives c =
    abs-derives c.infer.result c.args.recorder.now.theory c.args.binder.now c.args.premise.now.theorem (rw c.thm.ensures at c.concl-premise.ensures.theorem) c.infer.ensures.outcome

pub returns-clause-concludes : goal.returns-clause-concludes
returns-clause-concludes c =
    abs-concludes c.infer.result c.args.recorder.now.theory c.args.binder.now c.args.premise.now.theorem (rw c.thm.ensures at c.concl-premise.ensures.theorem) c.infer.ensures.outcome
