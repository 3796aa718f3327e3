use Rattle.hol_journal.specs.Views.{step_of}
use Rattle.hol_journal.proofs.InferenceLemmas.{inference-follows}
use Rattle.hol_journal.proofs.recorder.Recorder.record_inference.Goals as goal

pub record-requires-clause-follows : goal.record-requires-clause-follows
record-requires-clause-follows c = λ is.
    inference-follows c.args.self.now is c.args.theorem c.within_limits.ensures c.args.inference (step_of c.in_ok-rule.rule) c.in_ok-rule.ensures.ok
    c.requires.made c.in_ok-rule.ensures.sound c.requires.inferred
