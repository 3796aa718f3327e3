use Rattle.std.proofs.Common.{◌≡◌, take}
use Rattle.hol_subst.proofs.variable_types.with_type.Given as goal

abbrev pub invariant-loop-s : goal.invariant-loop-s
invariant-loop-s l = l.types.items ≡ take l.s-index l.known
