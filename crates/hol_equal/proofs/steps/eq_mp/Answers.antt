use Rattle.hol_equal.proofs.StepLemmas.{eq_mp-names, eq_mp-gives}
use Rattle.hol_equal.proofs.steps.eq_mp.Goals as goal

pub returns-clause-gives : goal.returns-clause-gives
returns-clause-gives c =
    eq_mp-gives c.infer.result c.args.recorder.now.theory c.args.first.now.theorem c.args.second.now.theorem
    c.theorems_hold.ensures.first c.infer.ensures.outcome

pub returns-clause-names : goal.returns-clause-names
returns-clause-names c = eq_mp-names c.infer.result c.args.recorder.now.theory c.args.first.now.theorem c.args.second.now.theorem c.infer.ensures.outcome
