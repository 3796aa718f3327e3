use Rattle.std.proofs.Common.{ap}
use Rattle.hol_journal.specs.Views.{step_of, entry_of}
use Rattle.hol_journal_log.proofs.MentionLemmas.{among_entry}
use Rattle.hol_journal_log.proofs.mentions.note_entry.Goals as goal

pub returns-in-Derived-clause-ok : goal.returns-in-Derived-clause-ok
returns-in-Derived-clause-ok c =
    among_entry c.note_rule.result c.args.names.now c.note_rule.new.names (entry_of c.args.entry.now) (step_of c.in-Derived.rule) c.in-Derived.field-1.sequent
    (ap entry_of c.in-Derived.is) c.note_rule.ensures.ok
