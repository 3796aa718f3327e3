use Rattle.std.proofs.Common.{List, ◌++◌, take}
use Rattle.hol_model.specs.Terms.NamedTerm.{NamedTerm}
use Rattle.hol_journal_log.specs.LogWriting.{Written}
use Rattle.hol_journal_log.specs.Writing.{AreTermsWritten, KeepsNames}
use Rattle.hol_journal_log.specs.Writer.{written}
use Rattle.hol_journal_log.proofs.writer.Writer.term_numbers.Given as goal

abbrev pub invariant-loop-term : goal.invariant-loop-term
invariant-loop-term l =
    ((old : Written) (before : List NamedTerm) → AreTermsWritten old (written l.initial.self) before l.initial.numbers.items
    → AreTermsWritten old (written l.self) (before ++ take l.term-index l.terms) l.numbers.items)
    × KeepsNames (written l.initial.self) (written l.self)
