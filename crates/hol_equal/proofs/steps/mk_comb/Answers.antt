use Rattle.hol_equal.proofs.StepLemmas.{mk_comb-names, mk_comb-derives}
use Rattle.hol_equal.proofs.steps.mk_comb.Goals as goal

pub returns-clause-derives : goal.returns-clause-derives
returns-clause-derives c =
    mk_comb-derives c.infer.result c.args.recorder.now.theory c.args.first.now.theorem c.args.second.now.theorem
    c.theorems_hold.ensures.first c.theorems_hold.ensures.second c.infer.ensures.outcome

pub returns-clause-names : goal.returns-clause-names
returns-clause-names c = mk_comb-names c.infer.result c.args.recorder.now.theory c.args.first.now.theorem c.args.second.now.theorem c.infer.ensures.outcome
