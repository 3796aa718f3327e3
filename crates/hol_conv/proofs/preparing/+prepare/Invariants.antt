use Rattle.hol_conv.specs.Prepares.{Prepares}
use Rattle.hol_conv.proofs.preparing.«+prepare».Given as goal

abbrev pub invariant-prepare_all-loop-conv : goal.invariant-prepare_all-loop-conv
invariant-prepare_all-loop-conv l = Prepares l.fn.library l.library l.prepared.items
