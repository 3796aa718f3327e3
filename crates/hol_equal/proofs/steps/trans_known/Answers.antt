use Rattle.hol_equal.proofs.StepLemmas.{trans-names, trans-derives}
use Rattle.hol_equal.proofs.steps.trans_known.Goals as goal

pub returns-clause-derives : goal.returns-clause-derives
returns-clause-derives c =
    trans-derives c.infer_known.result c.args.recorder.now.theory c.args.first.now.theorem c.args.second.now.theorem
    c.theorems_hold.ensures.first c.theorems_hold.ensures.second c.infer_known.ensures.outcome

pub returns-clause-names : goal.returns-clause-names
returns-clause-names c = trans-names c.infer_known.result c.args.recorder.now.theory c.args.first.now.theorem c.args.second.now.theorem c.infer_known.ensures.outcome
