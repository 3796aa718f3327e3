use Rattle.std.proofs.Common.{arith, length, ◌+◌}
use Rattle.hol_just.proofs.Depths.{greatest-within}
use Rattle.hol_just.proofs.depth.depth_of_line.Goals as goal

pub overflow_add-result : goal.overflow_add-result
overflow_add-result c =
    let all = greatest-within (length c.args.depths.now + 1) 1 c.args.depths.now c.deref.result.now (omega arith) c.requires.within in
    let is = c.greatest_at.ensures in
    let short = c.requires.short in
    omega (arith, all, is, short)
