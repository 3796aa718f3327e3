use Rattle.std.proofs.Common.{ap, sym}
use Rattle.hol_journal_log.specs.Needed.{names_in_term}
use Rattle.hol_journal_log.proofs.MarkingLemmas.{notes_two}
use Rattle.hol_journal_log.proofs.needed.+note_term.Goals as goal

pub returns-in_ok-note-in-Constant-clause-ok : goal.returns-in_ok-note-in-Constant-clause-ok
returns-in_ok-note-in-Constant-clause-ok t c =
    notes_two c.note_type-in-Constant.result c.args.names.now c.note.new.self c.note_type-in-Constant.new.names _ _ _
    (sym (ap names_in_term c.in-Constant.ensures.value)) c.in_ok-note-in-Constant.ensures.ok c.note_type-in-Constant.ensures.ok

pub returns-in_ok-note_term-in-Combination-clause-ok : goal.returns-in_ok-note_term-in-Combination-clause-ok
returns-in_ok-note_term-in-Combination-clause-ok t c =
    notes_two c.note_term-in-Combination.result c.args.names.now c.note_term.new.names c.note_term-in-Combination.new.names _ _ _
    (sym (ap names_in_term c.in-Combination.ensures.value)) c.in_ok-note_term-in-Combination.ensures.ok c.note_term-in-Combination.ensures.ok

pub returns-in_ok-note_type-in-Abstraction-clause-ok : goal.returns-in_ok-note_type-in-Abstraction-clause-ok
returns-in_ok-note_type-in-Abstraction-clause-ok t c =
    notes_two c.note_term-in-Abstraction.result c.args.names.now c.note_type-in-Abstraction.new.names c.note_term-in-Abstraction.new.names _ _ _
    (sym (ap names_in_term c.in-Abstraction.ensures.value)) c.in_ok-note_type-in-Abstraction.ensures.ok c.note_term-in-Abstraction.ensures.ok
