use Rattle.std.proofs.Common.{◌≡◌, ◌≤◌, ◌++◌, ◌-◌, ℕ, List, Option, false}
use Rattle.hol_logtext.specs.Fields.{has_line_feed}
use Rattle.hol_check.specs.Reading.{IsUnread}
use Rattle.hol_check.proofs.reading.Reading.next_line.Given as goal

abbrev pub invariant-loop-byte : goal.invariant-loop-byte
invariant-loop-byte g l =
    ((input : Option (List ℕ)) (handed : List ℕ) → IsUnread input handed l.fn.self (g.R.Source.remaining l.fn.reader) → IsUnread input (handed ++ l.line.items) l.self (g.R.Source.remaining l.reader))
    × (has_line_feed l.line.items ≡ false)
    × (l.fn.self.given ≤ l.self.given)
    × (g.R.Source.has_failed l.reader ≡ false)

abbrev pub decreases-loop-byte : goal.decreases-loop-byte
decreases-loop-byte g l = 16777217 - l.self.given
