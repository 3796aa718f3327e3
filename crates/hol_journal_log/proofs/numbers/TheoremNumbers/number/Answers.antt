use Rattle.std.proofs.Common.{refl}
use Rattle.std.proofs.lemmas.Option.{slice_get_read}
use Rattle.hol_journal_log.proofs.NumberedLemmas.{tested_there}
use Rattle.hol_journal_log.proofs.numbers.TheoremNumbers.number.Goals as goal

pub returns-then-other-entry : goal.returns-then-other-entry
returns-then-other-entry c =
    let there = slice_get_read _ _ _ _ refl c.in-Some-get.ensures.lookup.3.0 c.in-Some-get.ensures.lookup.1 in
    tested_there _ _ _ c.in-Some.place.now _ c.args.entry c.self.view_is c.self.invariant.distinct c.deref-in-Some.ensures.value there c.if-other-entry.true
