use Rattle.hol_journal_log.specs.Writer.{written}
use Rattle.hol_journal.specs.Views.{entry_of}
use Rattle.hol_journal_log.proofs.EntryLoopLemmas.{none_there, unmarked_below, marked_answers}
use Rattle.hol_journal_log.proofs.writer.Writer.write_marked.Goals as goal

pub returns-then-not-mark-clause-below : goal.returns-then-not-mark-clause-below
returns-then-not-mark-clause-below c = unmarked_below c.args.number (written c.args.self.now) c.requires

pub write_entry-requires : goal.write_entry-requires
write_entry-requires c = none_there c.args.number c.args.self.now.theorems c.requires.below

pub returns-in-Some-clause-below : goal.returns-in-Some-clause-below
returns-in-Some-clause-below c =
    marked_answers c.write_entry.result c.args.number (entry_of c.in-Some.entry.now) (written c.args.self.now)
    (written c.write_entry.new.self) c.requires c.write_entry.ensures.ok
