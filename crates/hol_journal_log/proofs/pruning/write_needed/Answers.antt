use Rattle.std.proofs.Common.{[], List, ℕ, refl, sym, subst}
use Rattle.hol_journal_log.specs.Marking.{AreMentioned}
use Rattle.hol_journal_log.specs.Writer.{written}
use Rattle.hol_journal_log.specs.LogWriting.{nothing_written}
use Rattle.hol_journal_log.proofs.MarkingLemmas.{naming_begun}
use Rattle.hol_journal_log.proofs.NamesLemmas.{noted_written}
use Rattle.hol_journal_log.proofs.pruning.write_needed.Goals as goal

pub mark_named-requires-clause-begun : goal.mark_named-requires-clause-begun
mark_named-requires-clause-begun c =
    let entries = c.args.recorder.now.entries in
    let marks = c.write_mentioned.new.marks.items in
    let before = c.new-names.result in
    let none = subst (AreMentioned entries c.args.claimed.now) (sym c.new-names.ensures) (λ (name : List ℕ) member. absurd member) in
    let noted = noted_written entries marks nothing_written (written c.write_mentioned.new.writer) before c.note_names.new.names refl c.in_ok-write_mentioned.ensures.written c.in_ok-note_names.ensures.ok in
    naming_begun entries c.args.claimed.now marks before c.note_names.new.names c.requires.earlier c.in_ok-write_mentioned.ensures.cited none noted
