use Rattle.std.proofs.Common.{take, ◌∙◌, arith}
use Rattle.std.proofs.lemmas.List.{take_more}
use Rattle.hol_journal_log.proofs.MarkingLemmas.{marked_more, member_at}
use Rattle.hol_journal_log.proofs.needed.marks_of.Goals as goal

pub loop-number-preserved : goal.loop-number-preserved
loop-number-preserved c =
    let front = take c.loop-number.number-index c.args.numbers.now in
    let longer = take_more c.args.numbers.now c.loop-number.number-index 0 (omega arith) in
    (c.mark.ensures.one_each ∙ c.loop-number.invariant.0, marked_more c.loop-number.marks.items c.mark.new.marks.items front _ _ c.loop-number.invariant.1 c.mark.ensures longer)

pub mark-requires : goal.mark-requires
mark-requires c =
    let below = c.requires _ (member_at c.args.numbers.now c.loop-number.number-index 0 (omega arith)) in
    omega (arith, below, c.loop-number.invariant.0)
