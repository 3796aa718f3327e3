use Rattle.hol_equal.proofs.StepLemmas.{formula-known, assume-gives}
use Rattle.hol_equal.proofs.steps.assume_known.Goals as goal

pub returns-clause-gives : goal.returns-clause-gives
returns-clause-gives c =
    assume-gives c.infer_known.result c.args.recorder.now.theory c.args.term.now c.infer_known.ensures.outcome

pub infer_known-requires : goal.infer_known-requires
infer_known-requires c = record { made = tt; fits = formula-known c.args.recorder.now.theory c.args.term.now c.requires }
