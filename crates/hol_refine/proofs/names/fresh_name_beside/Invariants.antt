use Rattle.std.proofs.Common.{◌≡◌}
use Rattle.std.specs.String.{string_bytes}
use Rattle.hol_model.specs.Refining.Refiners.{is_taken_beside}
use Rattle.hol_refine.proofs.Primes.{HasPrimes, primes_left}
use Rattle.hol_just.specs.Steps.{goal_of}
use Rattle.hol_refine.proofs.TakenNames.{longest_taken_beside}
use Rattle.hol_refine.specs.Sums.{name_sum}
use Rattle.hol_refine.proofs.names.fresh_name_beside.Given as goal

abbrev pub invariant-loop-trying : goal.invariant-loop-trying
invariant-loop-trying l = HasPrimes (is_taken_beside l.theory (goal_of l.goal) l.ty l.conclusion) l.name (string_bytes l.fresh) × (l.trying.sum ≡ name_sum (string_bytes l.fresh))

abbrev pub decreases-loop-trying : goal.decreases-loop-trying
decreases-loop-trying l = primes_left (longest_taken_beside l.theory (goal_of l.goal) l.conclusion) (string_bytes l.fresh)
