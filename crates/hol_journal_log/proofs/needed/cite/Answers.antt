use Rattle.std.proofs.Common.{length, subst}
use Rattle.hol_journal.specs.Views.{entry_of}
use Rattle.hol_journal.specs.declared.entry.Entry.{Entry}
use Rattle.hol_journal_log.specs.Marking.{CitesWithin}
use Rattle.hol_journal_log.proofs.needed.cite.Goals as goal

pub cite_rule-requires : goal.cite_rule-requires
cite_rule-requires c = subst (λ (entry : Entry). CitesWithin (entry_of entry) (length c.args.marks.now.items)) c.in-Derived.is c.requires
