use Rattle.hol_journal_log.proofs.NumberedLemmas.{none_distinct}
use Rattle.hol_journal_log.proofs.numbers.TheoremNumbers.new.Goals as goal

pub invariant_of-result : goal.invariant_of-result
invariant_of-result c = record { distinct = none_distinct _ c.new.ensures.items }
