use Rattle.std.proofs.Common.{◌≡◌, take, false}
use Rattle.hol_syntax.specs.Scope.{scope_of}
use Rattle.hol_check_review.specs.Written.{IsClaimPiece, ArePieces, Writes}
use Rattle.hol_check_review.proofs.review.write_claims.Given as goal

abbrev pub invariant-loop-claim : goal.invariant-loop-claim
invariant-loop-claim g l =
    Writes (g.W.Sink.contents l.fn.writer) (g.W.Sink.contents l.writer) (ArePieces (IsClaimPiece (scope_of l.scope) l.wanted) (take l.claim-index l.claims))
    × (g.W.Sink.has_failed l.writer ≡ false)
