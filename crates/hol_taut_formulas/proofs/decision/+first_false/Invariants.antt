use Rattle.std.proofs.Common.{◌-◌, length}
use Rattle.hol_taut_formulas.proofs.decision.+first_false.Given as goal

abbrev pub decreases-first_false : goal.decreases-first_false
decreases-first_false l = l.count - length l.row.now
