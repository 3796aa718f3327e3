use Rattle.std.proofs.Common.{length}
use Rattle.hol_taut.proofs.next.+next_atom.Given as goal

abbrev pub decreases-next_atom : goal.decreases-next_atom
decreases-next_atom l = length l.atoms.now
