use Rattle.hol_journal.specs.Inferences.{step_of_inference}
use Rattle.hol_journal.proofs.InferenceLemmas.{inferred_continues}
use Rattle.hol_journal.proofs.recorder.Recorder.infer_known.Goals as goal

pub returns-clause-continues : goal.returns-clause-continues
returns-clause-continues c =
    inferred_continues c.in_ok-theorem.theorem c.record_inference.result c.args.self.now c.record_inference.new.self (step_of_inference c.args.inference)
    c.in_ok-theorem.ensures.stands_on c.record_inference.ensures.ok c.record_inference.ensures.recorded c.record_inference.ensures.kept
