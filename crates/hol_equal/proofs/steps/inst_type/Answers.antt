use Rattle.hol_model.specs.Kernel.Instantiation.{type_replacements_refusal, instantiate_all}
use Rattle.hol_equal.proofs.StepLemmas.{changed-derives}
use Rattle.hol_equal.proofs.steps.inst_type.Goals as goal

pub returns-clause-derives : goal.returns-clause-derives
returns-clause-derives c =
    changed-derives c.infer.result c.args.recorder.now.theory (instantiate_all c.args.theta.now) c.args.premise.now.theorem
    (type_replacements_refusal c.args.recorder.now.theory c.args.theta.now) c.infer.ensures.outcome
