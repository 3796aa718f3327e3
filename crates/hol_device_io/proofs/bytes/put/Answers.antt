use Rattle.std.proofs.lemmas.Result.{err_from_is_err_and}
use Rattle.hol_device_io.proofs.BytesLemmas.{flush-fails, piece-fails, written-puts}
use Rattle.hol_device_io.proofs.bytes.put.Goals as goal

pub returns-clause-ok : goal.returns-clause-ok
returns-clause-ok g c = written-puts _ (g.W.Sink.contents c.write_all.new.writer) _ _ _ c.in_ok-write_all.ensures.ok c.in_ok-write_all-2.ensures.ok

pub returns-in_err-write_all-clause-err : goal.returns-in_err-write_all-clause-err
returns-in_err-write_all-clause-err g c =
    let p = err_from_is_err_and c.from_residual.result c.from_residual.ensures.1 in
    rw p.1 (flush-fails c.args.piece.now c.in_err-write_all.ensures.err)

pub returns-in_err-write_all-2-clause-err : goal.returns-in_err-write_all-2-clause-err
returns-in_err-write_all-2-clause-err g c =
    let p = err_from_is_err_and c.from_residual-in_err-write_all-2.result c.from_residual-in_err-write_all-2.ensures.1 in
    rw p.1 (piece-fails _ (g.W.Sink.contents c.write_all.new.writer) _ _ _ c.in_ok-write_all.ensures.ok c.in_err-write_all-2.ensures.err)
