use Rattle.std.proofs.Common.{◌≡◌, ◌≤◌, false, drop, take, length}
use Rattle.hol_device_io.proofs.BytesLemmas.{HeldUpTo}
use Rattle.hol_device_io.proofs.bytes.write_pieces.Given as goal

abbrev pub invariant-loop-piece : goal.invariant-loop-piece
invariant-loop-piece g l =
    HeldUpTo (g.W.Sink.contents l.fn.writer) (g.W.Sink.contents l.writer) l.pieces (drop l.piece-index l.pieces) (take l.held l.buffer)
    × (g.W.Sink.has_failed l.writer ≡ false)
    × (l.held ≤ length l.buffer)
