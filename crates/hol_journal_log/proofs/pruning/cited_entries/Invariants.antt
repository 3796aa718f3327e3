use Rattle.std.proofs.Common.{◌≡◌, map, take}
use Rattle.hol_journal_log.proofs.pruning.cited_entries.Given as goal

abbrev pub invariant-loop-at : goal.invariant-loop-at
invariant-loop-at l = l.numbers.items ≡ map (λ claim. claim.theorem.now.entry) (take l.at l.claims)
