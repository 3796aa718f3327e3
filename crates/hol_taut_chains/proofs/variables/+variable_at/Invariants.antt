use Rattle.std.proofs.Common.{length}
use Rattle.hol_taut_chains.proofs.variables.+variable_at.Given as goal

abbrev pub decreases-variable_at : goal.decreases-variable_at
decreases-variable_at l = length l.parts.now
