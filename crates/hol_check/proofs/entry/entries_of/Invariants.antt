use Rattle.std.proofs.Common.{◌≡◌, ◌≤◌, ◌-◌, take, length}
use Rattle.hol_check.specs.Entries.{entries_in}
use Rattle.hol_check.proofs.entry.entries_of.Given as goal

abbrev pub invariant-loop-place : goal.invariant-loop-place
invariant-loop-place l =
    (l.entries.items ≡ take l.place (entries_in l.log.value.theory)) × (l.count ≡ length (entries_in l.log.value.theory)) × (l.place ≤ l.count)

abbrev pub decreases-loop-place : goal.decreases-loop-place
decreases-loop-place l = l.count - l.place
