use Rattle.std.proofs.Common.{◌≡◌, ◌≤◌, ◌+◌, ◌-◌, ℕ, List, Option, false}
use Rattle.hol_check.specs.LogAnswers.{IsUnderway}
use Rattle.hol_check.proofs.log_reader.read_lines.Given as goal

abbrev pub invariant-loop-line : goal.invariant-loop-line
invariant-loop-line g l =
    ((input : Option (List ℕ)) → IsUnderway input l.fn.reading (g.R.Source.remaining l.fn.reader) 2 l.fn.log → IsUnderway input l.reading (g.R.Source.remaining l.reader) l.number l.log)
    × (l.number ≤ l.reading.given + 2)
    × (g.R.Source.has_failed l.reader ≡ false)

abbrev pub decreases-loop-line : goal.decreases-loop-line
decreases-loop-line g l = 16777217 - l.reading.given
