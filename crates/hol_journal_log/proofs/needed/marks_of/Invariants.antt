use Rattle.std.proofs.Common.{◌≡◌, length, take}
use Rattle.hol_journal_log.specs.Marking.{AreMarked}
use Rattle.hol_journal_log.proofs.needed.marks_of.Given as goal

abbrev pub invariant-loop-number : goal.invariant-loop-number
invariant-loop-number l = (length l.marks.items ≡ l.count) × AreMarked l.marks.items (take l.number-index l.numbers)
