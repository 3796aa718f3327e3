use Rattle.std.proofs.Common.{rules}
use Rattle.hol_device_io.proofs.BytesLemmas.{taken_within}
use Rattle.hol_device_io.proofs.bytes.read_all.Goals as goal

pub returns-in_err-extend_from_slice-clause-memory : goal.returns-in_err-extend_from_slice-clause-memory
returns-in_err-extend_from_slice-clause-memory g c = λ wants.
    taken_within _ _ _ c.loop-count.bytes.items c.pull.new.buf c.in-Ok.count _ c.loop-count.invariant.0 c.in-Ok.ensures.bytes.0 (search rules) (search rules)
