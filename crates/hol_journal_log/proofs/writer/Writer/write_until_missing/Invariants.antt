use Rattle.std.proofs.Common.{◌≡◌, take}
use Rattle.hol_journal_log.specs.LogWriting.{nothing_written, write_entries}
use Rattle.hol_journal_log.specs.Writing.{StandBelow, KeepsNames}
use Rattle.hol_journal_log.specs.Writer.{written}
use Rattle.hol_journal_log.proofs.writer.Writer.write_until_missing.Given as goal

abbrev pub invariant-loop-at : goal.invariant-loop-at
invariant-loop-at l =
    (written l.self ≡ write_entries 0 (take l.at l.recorder.entries) (take l.at l.marks) nothing_written)
    × StandBelow l.at (written l.self) × KeepsNames (written l.initial.self) (written l.self)
