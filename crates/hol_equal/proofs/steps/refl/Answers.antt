use Rattle.hol_equal.proofs.StepLemmas.{refl-names, refl-derives}
use Rattle.hol_equal.proofs.steps.refl.Goals as goal

pub returns-clause-derives : goal.returns-clause-derives
returns-clause-derives c =
    refl-derives c.infer.result c.args.recorder.now.theory c.args.term.now c.infer.ensures.outcome

pub returns-clause-names : goal.returns-clause-names
returns-clause-names c = refl-names c.infer.result c.args.recorder.now.theory c.args.term.now c.infer.ensures.outcome
