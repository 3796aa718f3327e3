use Rattle.std.proofs.Common.{ap, sym}
use Rattle.hol_journal_log.specs.Needed.{names_in_type}
use Rattle.hol_journal_log.proofs.MarkingLemmas.{notes_two}
use Rattle.hol_journal_log.proofs.needed.+note_type.Goals as goal

pub returns-in_ok-note_type-in-Function-clause-ok : goal.returns-in_ok-note_type-in-Function-clause-ok
returns-in_ok-note_type-in-Function-clause-ok t c =
    notes_two c.note_type-in-Function.result c.args.names.now c.note_type.new.names c.note_type-in-Function.new.names _ _ _
    (sym (ap names_in_type c.in-Function.ensures.value)) c.in_ok-note_type-in-Function.ensures.ok c.note_type-in-Function.ensures.ok
