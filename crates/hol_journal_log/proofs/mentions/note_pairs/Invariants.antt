use Rattle.std.specs.List.{flat_map}
use Rattle.hol_journal.specs.Steps.{both_parts}
use Rattle.hol_journal_log.specs.Needed.{names_in_term}
use Rattle.hol_journal_log.specs.Marking.{NotesAmong}
use Rattle.hol_journal_log.proofs.mentions.note_pairs.Given as goal

abbrev pub invariant-loop-pair : goal.invariant-loop-pair
invariant-loop-pair l = NotesAmong l.initial.names l.names (flat_map names_in_term (both_parts l.pairs))
