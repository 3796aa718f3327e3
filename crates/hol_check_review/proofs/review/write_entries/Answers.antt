use Rattle.std.proofs.Common.{ℕ, List, subst}
use Rattle.std.specs.String.{string_bytes}
use Rattle.std.specs.Io.KnownBytes.{Appends}
use Rattle.hol_model.specs.Logic.Theory.{Entry}
use Rattle.hol_syntax.specs.Scope.{scope_of}
use Rattle.hol_check_review.specs.Written.{IsEntryPiece}
use Rattle.hol_check_review.proofs.WrittenLemmas.{nothing_written, piece_written}
use Rattle.hol_check_review.proofs.review.write_entries.Goals as goal

pub loop-entry-init : goal.loop-entry-init
loop-entry-init g c = (nothing_written (IsEntryPiece (scope_of c.args.scope.now)) (g.W.Sink.contents c.args.writer.now), c.requires.unfailed)

pub loop-entry-preserved : goal.loop-entry-preserved
loop-entry-preserved g c =
    let before = g.W.Sink.contents c.loop-entry.writer in
    let after = g.W.Sink.contents c.write_all.new.writer in
    let piece = string_bytes c.in_ok-piece.piece in
    let tells = subst (λ (item : Entry). IsEntryPiece (scope_of c.args.scope.now) item piece) c.entry-item.is c.in_ok-piece.ensures in
    let wrote = subst (λ (bytes : List ℕ). Appends before after bytes) c.as_bytes.ensures.value c.in_ok-write_all.ensures.ok in (
      piece_written (IsEntryPiece (scope_of c.args.scope.now)) _ before after c.args.entries.now c.loop-entry.entry-index c.entry-item.result piece c.loop-entry-test.true
          c.loop-entry.invariant.0 tells wrote,
      c.in_ok-write_all.ensures.unfailed,
    )
