use Rattle.std.proofs.Common.{false, rules, arith}
use Rattle.std.proofs.lemmas.List.{take_more}
use Rattle.hol_journal_log.specs.LogWriting.{nothing_written}
use Rattle.hol_journal_log.specs.Writer.{written}
use Rattle.hol_journal_log.proofs.MarkingLemmas.{entry_at}
use Rattle.hol_journal_log.proofs.EntryLoopLemmas.{one_more_entry, entries_turn}
use Rattle.hol_journal_log.proofs.writer.Writer.write_until_missing.Goals as goal

pub loop-at-preserved : goal.loop-at-preserved
loop-at-preserved c = (
  let entries = c.args.recorder.now.entries in
      let here = entry_at entries c.loop-at.at (omega (arith, c.requires.one_each)) in
      entries_turn entries c.args.marks.now c.loop-at.at here.0 _ nothing_written (written c.loop-at.self) (written c.write_marked.new.self) (omega (arith, c.requires.one_each)) c.requires.one_each
      (one_more_entry entries c.loop-at.at here.0 here.1) (take_more c.args.marks.now c.loop-at.at false (omega arith)) c.loop-at.invariant.0 (c.in_ok-write_marked.ensures.ok here.0 here.1),
  c.in_ok-write_marked.ensures.below,
  search (rules, c.loop-at.invariant.2, c.in_ok-write_marked.ensures.named),
)
