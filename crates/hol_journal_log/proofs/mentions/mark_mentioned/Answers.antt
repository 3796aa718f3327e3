use Rattle.std.proofs.Common.{◌-◌, arith}
use Rattle.hol_journal_log.proofs.MarkingLemmas.{entry_at}
use Rattle.hol_journal_log.proofs.MentionLemmas.{mentioned_further}
use Rattle.hol_journal_log.proofs.mentions.mark_mentioned.Goals as goal

pub name_stored-requires : goal.name_stored-requires
name_stored-requires c = omega (arith, c.loop-behind.invariant.cited.one_each, c.entries-count.ensures)

pub loop-behind-preserved : goal.loop-behind-preserved
loop-behind-preserved c =
    let entries = c.args.recorder.now.entries in
    let at = c.entries-count.result - 1 - c.loop-behind.behind in
    let here = entry_at entries at (omega (arith, c.entries-count.ensures)) in
    mentioned_further entries c.args.claimed.now at here.0 c.loop-behind.marks.items c.loop-behind.names here.1 c.loop-behind.invariant
    c.name_stored.new.marks.items c.name_stored.new.names (c.in_ok-name_stored.ensures.ok here.0 here.1)
