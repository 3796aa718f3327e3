use Rattle.std.proofs.Common.{take}
use Rattle.hol_journal.specs.Steps.{both_parts}
use Rattle.hol_journal_log.specs.Writing.{AreTermsWritten, KeepsNames}
use Rattle.hol_journal_log.specs.Writer.{written}
use Rattle.hol_journal_log.proofs.writer.Writer.term_pairs.Given as goal

abbrev pub invariant-loop-pair : goal.invariant-loop-pair
invariant-loop-pair l =
    AreTermsWritten (written l.initial.self) (written l.self) (both_parts (take l.pair-index l.pairs)) (both_parts l.numbers.items)
    × KeepsNames (written l.initial.self) (written l.self)
