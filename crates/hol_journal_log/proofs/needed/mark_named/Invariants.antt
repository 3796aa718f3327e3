use Rattle.std.proofs.Common.{◌≡◌, ℕ, ◌+◌, length}
use Rattle.hol_journal_log.specs.Marking.{IsMarkedFrom, IsSame}
use Rattle.hol_journal_log.proofs.needed.mark_named.Given as goal

abbrev pub invariant-loop-behind : goal.invariant-loop-behind
invariant-loop-behind l =
    ((place : ℕ) → place + l.behind ≡ length l.recorder.entries → IsMarkedFrom l.recorder.entries l.claimed place l.marks.items l.names)
    × IsSame l.initial.is_more l.is_more l.initial.marks.items l.marks.items
