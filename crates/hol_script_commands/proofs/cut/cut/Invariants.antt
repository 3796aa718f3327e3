use Rattle.std.proofs.Common.{◌≡◌, ℕ, ◌<◌, ◌≤◌, ◌-◌, false, length}
use Rattle.hol_script_commands.proofs.CutLemmas.{is_marked}
use Rattle.hol_script_commands.proofs.cut.cut.Given as goal

abbrev pub invariant-loop-at : goal.invariant-loop-at
invariant-loop-at l = (l.at ≤ length l.bytes) × ((before : ℕ) → before < l.at → is_marked l.bytes before ≡ false)

abbrev pub decreases-loop-at : goal.decreases-loop-at
decreases-loop-at l = length l.bytes - l.at
