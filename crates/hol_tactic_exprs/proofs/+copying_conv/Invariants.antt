use Rattle.std.proofs.Common.{◌≡◌, map, take}
use Rattle.hol_tactic_exprs.specs.Expressions.{conversion_of}
use Rattle.hol_tactic_exprs.proofs.«+copying_conv».Given as goal

abbrev pub invariant-making::conv_copies-loop-conv : goal.invariant-making::conv_copies-loop-conv
invariant-making::conv_copies-loop-conv l = map conversion_of l.copies.items ≡ map conversion_of (take l.conv-index l.convs)
