use Rattle.std.proofs.Common.{take}
use Rattle.hol_journal_log.specs.Marking.{Notes}
use Rattle.hol_journal_log.specs.WrittenNames.{names_in_lines}
use Rattle.hol_journal_log.specs.Writer.{written}
use Rattle.hol_journal_log.proofs.writer.Writer.note_constants.Given as goal

abbrev pub invariant-loop-at : goal.invariant-loop-at
invariant-loop-at l = Notes l.initial.names l.names (names_in_lines (take l.at (written l.self).terms))
