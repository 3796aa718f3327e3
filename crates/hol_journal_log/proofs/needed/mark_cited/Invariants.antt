use Rattle.std.proofs.Common.{◌≡◌, ℕ, ◌+◌, length}
use Rattle.hol_journal_log.specs.Marking.{AreCitedFrom}
use Rattle.hol_journal_log.proofs.needed.mark_cited.Given as goal

abbrev pub invariant-loop-behind : goal.invariant-loop-behind
invariant-loop-behind l = (place : ℕ) → place + l.behind ≡ length l.recorder.entries → AreCitedFrom l.recorder.entries l.claimed place l.marks.items
