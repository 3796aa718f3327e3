use Rattle.std.proofs.Common.{◌≡◌, true, take}
use Rattle.std.specs.List.{list_all}
use Rattle.hol_journal.specs.Limits.{fits_log}
use Rattle.hol_journal.proofs.limits.terms_fit.Given as goal

abbrev pub invariant-loop-term : goal.invariant-loop-term
invariant-loop-term l = list_all fits_log (take l.term-index l.terms) ≡ true
