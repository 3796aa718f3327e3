use Rattle.std.proofs.Common.{◌≡◌, take, length, arith}
use Rattle.std.proofs.lemmas.List.{length-map}
use Rattle.hol_journal_log.specs.Writer.{written, line_of_term}
use Rattle.hol_journal_log.proofs.MarkingLemmas.{entry_at}
use Rattle.hol_journal_log.proofs.EntryLoopLemmas.{one_more_entry}
use Rattle.hol_journal_log.proofs.NamesLemmas.{notes_line_turn}
use Rattle.hol_journal_log.proofs.writer.Writer.note_constants.Goals as goal

pub loop-at-preserved : goal.loop-at-preserved
loop-at-preserved c =
    let lines = (written c.args.self.now).terms in
    let keys = c.args.self.now.terms.keys in
    let count : c.len-at-end.result ≡ length keys = c.len-at-end.ensures.len in
    let here = entry_at lines c.loop-at.at (omega (arith, count, length-map keys line_of_term)) in
    notes_line_turn c.args.names.now c.loop-at.names c.note_constant.new.names (take c.loop-at.at lines) _ here.0 c.loop-at.invariant (c.in_ok-note_constant.ensures.ok here.0 here.1)
    (one_more_entry lines c.loop-at.at here.0 here.1)
