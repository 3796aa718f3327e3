use Rattle.std.proofs.Common.{ℕ, List, subst}
use Rattle.std.specs.String.{string_bytes}
use Rattle.std.specs.Io.KnownBytes.{Appends}
use Rattle.hol_model.specs.Logs.LogState.{LogClaim}
use Rattle.hol_syntax.specs.Scope.{scope_of}
use Rattle.hol_check_review.specs.Written.{IsClaimPiece}
use Rattle.hol_check_review.proofs.WrittenLemmas.{nothing_written, piece_written}
use Rattle.hol_check_review.proofs.review.write_claims.Goals as goal

pub loop-claim-init : goal.loop-claim-init
loop-claim-init g c = (nothing_written (IsClaimPiece (scope_of c.args.scope.now) c.args.wanted) (g.W.Sink.contents c.args.writer.now), c.requires.unfailed)

pub loop-claim-preserved : goal.loop-claim-preserved
loop-claim-preserved g c =
    let before = g.W.Sink.contents c.loop-claim.writer in
    let after = g.W.Sink.contents c.write_all.new.writer in
    let piece = string_bytes c.in_ok-piece.piece in
    let tells = subst (λ (item : LogClaim). IsClaimPiece (scope_of c.args.scope.now) c.args.wanted item piece) c.claim-item.is c.in_ok-piece.ensures in
    let wrote = subst (λ (bytes : List ℕ). Appends before after bytes) c.as_bytes.ensures.value c.in_ok-write_all.ensures.ok in (
      piece_written (IsClaimPiece (scope_of c.args.scope.now) c.args.wanted) _ before after c.args.claims.now c.loop-claim.claim-index c.claim-item.result piece c.loop-claim-test.true
          c.loop-claim.invariant.0 tells wrote,
      c.in_ok-write_all.ensures.unfailed,
    )
