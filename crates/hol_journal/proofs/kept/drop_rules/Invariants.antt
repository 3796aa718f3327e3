use Rattle.std.proofs.Common.{List}
use Rattle.hol_journal.specs.Steps.{JournalEntry}
use Rattle.hol_journal.specs.Stored.{AreKept}
use Rattle.hol_journal.proofs.kept.drop_rules.Given as goal

abbrev pub invariant-loop : goal.invariant-loop
invariant-loop l = (entries : List JournalEntry) → AreKept 0 entries l.initial.kept.items → AreKept 0 entries l.kept.items
