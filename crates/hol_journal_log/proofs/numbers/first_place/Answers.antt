use Rattle.hol_journal_log.proofs.NumberedLemmas.{found_first, found_nowhere}
use Rattle.hol_journal_log.proofs.numbers.first_place.Goals as goal

pub returns-then-entries-place : goal.returns-then-entries-place
returns-then-entries-place c = found_first c.args.entries.now c.args.entry c.loop-place.place c.loop-place.invariant c.loop-place-test.true c.if-entries-place.true

pub returns : goal.returns
returns c = found_nowhere c.args.entries.now c.args.entry c.loop-place.place c.loop-place.invariant c.loop-place-test.false
