use Rattle.std.proofs.Common.{get_or, false, refl, arith}
use Rattle.hol_journal_log.proofs.MarkingLemmas.{entry_at}
use Rattle.hol_journal_log.proofs.MentionLemmas.{mentioned_at}
use Rattle.hol_journal_log.proofs.mentions.mentioned_names.Goals as goal

pub loop-place-preserved : goal.loop-place-preserved
loop-place-preserved c =
    let entries = c.args.recorder.now.entries in
    let here = entry_at entries c.loop-place.place (omega (arith, c.requires.one_each)) in
    mentioned_at entries c.args.claimed.now c.loop-place.place here.0 (get_or c.args.marks.now c.loop-place.place false) c.args.marks.now c.loop-place.names c.note_marked.new.names
    c.requires here.1 refl c.loop-place.invariant (c.in_ok-note_marked.ensures.ok here.0 here.1)
