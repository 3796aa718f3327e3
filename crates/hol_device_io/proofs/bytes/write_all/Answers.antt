use Rattle.std.proofs.Common.{rules}
use Rattle.hol_device_io.proofs.BytesLemmas.{taken_more}
use Rattle.hol_device_io.proofs.bytes.write_all.Goals as goal

pub loop-rest-preserved : goal.loop-rest-preserved
loop-rest-preserved g c = (rw c.split_at.ensures.back (taken_more _ c.loop-rest.invariant.0 c.in-Ok.ensures.bytes), search rules)
