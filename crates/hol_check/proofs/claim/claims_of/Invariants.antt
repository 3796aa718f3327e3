use Rattle.std.proofs.Common.{◌≡◌, ◌≤◌, ◌-◌, take, length}
use Rattle.hol_check.proofs.claim.claims_of.Given as goal

abbrev pub invariant-loop-place : goal.invariant-loop-place
invariant-loop-place l =
    (l.claims.items ≡ take l.place l.log.value.claims) × (l.count ≡ length l.log.value.claims) × (l.place ≤ l.count)

abbrev pub decreases-loop-place : goal.decreases-loop-place
decreases-loop-place l = l.count - l.place
