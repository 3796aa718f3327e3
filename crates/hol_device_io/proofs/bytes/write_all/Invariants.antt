use Rattle.std.proofs.Common.{◌≡◌, false, length}
use Rattle.hol_device_io.proofs.BytesLemmas.{TakenUpTo}
use Rattle.hol_device_io.proofs.bytes.write_all.Given as goal

abbrev pub invariant-loop-rest : goal.invariant-loop-rest
invariant-loop-rest g l =
    TakenUpTo (g.W.Sink.contents l.fn.writer) (g.W.Sink.contents l.writer) l.fn.piece l.rest
    × (g.W.Sink.has_failed l.writer ≡ false)

abbrev pub decreases-loop-rest : goal.decreases-loop-rest
decreases-loop-rest g l = length l.rest
