use Rattle.std.proofs.Common.{◌≡◌, take, false}
use Rattle.hol_syntax.specs.Scope.{scope_of}
use Rattle.hol_check_review.specs.Written.{IsEntryPiece, ArePieces, Writes}
use Rattle.hol_check_review.proofs.review.write_entries.Given as goal

abbrev pub invariant-loop-entry : goal.invariant-loop-entry
invariant-loop-entry g l =
    Writes (g.W.Sink.contents l.fn.writer) (g.W.Sink.contents l.writer) (ArePieces (IsEntryPiece (scope_of l.scope)) (take l.entry-index l.entries))
    × (g.W.Sink.has_failed l.writer ≡ false)
