use Rattle.hol_journal_log.specs.Marking.{AreMentioned}
use Rattle.hol_journal_log.proofs.mentions.mentioned_names.Given as goal

abbrev pub invariant-loop-place : goal.invariant-loop-place
invariant-loop-place l = AreMentioned l.recorder.entries l.claimed l.names
