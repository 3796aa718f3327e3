use Rattle.std.proofs.Common.{rules, take}
use Rattle.std.proofs.lemmas.Result.{err_from_is_err_and}
use Rattle.std.proofs.lemmas.List.{drop_all}
use Rattle.hol_device_io.proofs.BytesLemmas.{held_at, fails_at, ends}
use Rattle.hol_device_io.proofs.bytes.write_pieces.Goals as goal

pub returns-in_err-held-clause-err : goal.returns-in_err-held-clause-err
returns-in_err-held-clause-err g c =
    let p = err_from_is_err_and c.from_residual.result c.from_residual.ensures.1 in
    rw p.1 (fails_at c.args.pieces.now c.loop-piece.piece-index _ (search rules) c.loop-piece.invariant.0 c.in_err-held.ensures.err)

pub loop-piece-preserved : goal.loop-piece-preserved
loop-piece-preserved g c = (
  held_at c.args.pieces.now c.loop-piece.piece-index _ (search rules) c.loop-piece.invariant.0 c.in_ok-held.ensures.ok,
  search rules,
  search rules,
)

pub returns-clause-err : goal.returns-clause-err
returns-clause-err g c = ends (g.W.Sink.contents c.args.writer.now) (g.W.Sink.contents c.loop-piece.writer) (g.W.Sink.contents c.write_all.new.writer) c.args.pieces.now
    (take c.loop-piece.held c.loop-piece.buffer) c.write_all.result
    (rw (drop_all c.loop-piece.piece-index c.args.pieces.now (search rules)) at c.loop-piece.invariant.0) c.write_all.ensures.err
