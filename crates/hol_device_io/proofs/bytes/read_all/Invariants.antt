use Rattle.std.proofs.Common.{◌≡◌, ◌≤◌, ◌-◌, false, vec_len}
use Rattle.std.specs.Io.KnownBytes.{Consumes}
use Rattle.hol_device_io.proofs.bytes.read_all.Given as goal

abbrev pub invariant-loop-count : goal.invariant-loop-count
invariant-loop-count g l =
    Consumes (g.R.Source.remaining l.fn.reader) (g.R.Source.remaining l.reader) l.bytes.items
    × (g.R.Source.has_failed l.reader ≡ false)
    × (vec_len l.bytes ≤ 16777216)

abbrev pub decreases-loop-count : goal.decreases-loop-count
decreases-loop-count g l = 16777217 - vec_len l.bytes
