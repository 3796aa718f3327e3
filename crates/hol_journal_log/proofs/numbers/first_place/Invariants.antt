use Rattle.hol_journal_log.proofs.NumberedLemmas.{IsNotBefore}
use Rattle.hol_journal_log.proofs.numbers.first_place.Given as goal

abbrev pub invariant-loop-place : goal.invariant-loop-place
invariant-loop-place l = IsNotBefore l.entries l.entry l.place
