use Rattle.hol_equal.proofs.StepLemmas.{beta-derives}
use Rattle.hol_equal.proofs.steps.beta_known.Goals as goal

pub returns-clause-derives : goal.returns-clause-derives
returns-clause-derives c =
    beta-derives c.infer_known.result c.args.recorder.now.theory c.args.term.now c.infer_known.ensures.outcome
