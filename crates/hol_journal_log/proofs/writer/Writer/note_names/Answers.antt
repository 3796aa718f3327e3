use Rattle.std.proofs.Common.{◌≡◌, take, length, refl, subst, arith}
use Rattle.std.proofs.lemmas.List.{length-map, take_all}
use Rattle.hol_journal_log.specs.Writer.{written, line_of_type}
use Rattle.hol_journal_log.specs.Marking.{Notes}
use Rattle.hol_journal_log.specs.WrittenNames.{names_in_lines}
use Rattle.hol_journal_log.proofs.MarkingLemmas.{entry_at, notes_two}
use Rattle.hol_journal_log.proofs.EntryLoopLemmas.{one_more_entry}
use Rattle.hol_journal_log.proofs.NamesLemmas.{notes_line_turn}
use Rattle.hol_journal_log.proofs.writer.Writer.note_names.Goals as goal

pub loop-at-preserved : goal.loop-at-preserved
loop-at-preserved c =
    let lines = (written c.args.self.now).types in
    let keys = c.args.self.now.types.keys in
    let count : c.len-at-end.result ≡ length keys = c.len-at-end.ensures.len in
    let here = entry_at lines c.loop-at.at (omega (arith, count, length-map keys line_of_type)) in
    notes_line_turn c.args.names.now c.loop-at.names c.note_declared.new.names (take c.loop-at.at lines) _ here.0 c.loop-at.invariant (c.in_ok-note_declared.ensures.ok here.0 here.1)
    (one_more_entry lines c.loop-at.at here.0 here.1)

pub returns-clause-ok : goal.returns-clause-ok
returns-clause-ok c =
    let all = written c.args.self.now in
    let keys = c.args.self.now.types.keys in
    let count : c.len-at-end.result ≡ length keys = c.len-at-end.ensures.len in
    let whole : take c.loop-at.at all.types ≡ all.types = take_all c.loop-at.at all.types (omega (arith, count, length-map keys line_of_type)) in
    let types = subst (λ lines. Notes c.args.names.now c.loop-at.names (names_in_lines lines)) whole c.loop-at.invariant in
    notes_two c.note_constants.result c.args.names.now c.loop-at.names c.note_constants.new.names (names_in_lines all.types) (names_in_lines all.terms) _ refl types c.note_constants.ensures.ok
