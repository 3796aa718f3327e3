use Rattle.hol_journal_log.proofs.MentionLemmas.{MarksMentioned}
use Rattle.hol_journal_log.proofs.mentions.mark_mentioned.Given as goal

abbrev pub invariant-loop-behind : goal.invariant-loop-behind
invariant-loop-behind l = MarksMentioned l.recorder.entries l.claimed l.marks.items l.names
