use Rattle.std.proofs.Common.{ap, refl, sym}
use Rattle.hol_journal_log.specs.Needed.{names_in_term}
use Rattle.hol_journal_log.proofs.MentionLemmas.{among_noted, noted_among, among_two}
use Rattle.hol_journal_log.proofs.mentions.+note_term_once.Goals as goal

pub returns-in-Variable-clause-ok : goal.returns-in-Variable-clause-ok
returns-in-Variable-clause-ok t c =
    among_noted c.note_type-in-Variable.result c.args.names.now c.note_type-in-Variable.new.names _ _ (sym (ap names_in_term c.in-Variable.ensures.value)) c.note_type-in-Variable.ensures.ok

pub returns-in_ok-note-in-Constant-clause-ok : goal.returns-in_ok-note-in-Constant-clause-ok
returns-in_ok-note-in-Constant-clause-ok t c =
    among_two c.note_type-in-Constant.result c.args.names.now c.note.new.self c.note_type-in-Constant.new.names _ _ _ (sym (ap names_in_term c.in-Constant.ensures.value))
    (noted_among _ _ _ c.in_ok-note-in-Constant.ensures.ok) (among_noted c.note_type-in-Constant.result c.note.new.self c.note_type-in-Constant.new.names _ _ refl c.note_type-in-Constant.ensures.ok)

pub returns-in_ok-note_term_once-in-Combination-clause-ok : goal.returns-in_ok-note_term_once-in-Combination-clause-ok
returns-in_ok-note_term_once-in-Combination-clause-ok t c =
    among_two c.note_term_once-in-Combination.result c.args.names.now c.note_term_once.new.names c.note_term_once-in-Combination.new.names _ _ _
    (sym (ap names_in_term c.in-Combination.ensures.value)) c.in_ok-note_term_once-in-Combination.ensures.ok c.note_term_once-in-Combination.ensures.ok

pub returns-in_ok-note_type-in-Abstraction-clause-ok : goal.returns-in_ok-note_type-in-Abstraction-clause-ok
returns-in_ok-note_type-in-Abstraction-clause-ok t c =
    among_two c.note_term_once-in-Abstraction.result c.args.names.now c.note_type.new.names c.note_term_once-in-Abstraction.new.names _ _ _
    (sym (ap names_in_term c.in-Abstraction.ensures.value)) (noted_among _ _ _ c.in_ok-note_type-in-Abstraction.ensures.ok) c.note_term_once-in-Abstraction.ensures.ok
