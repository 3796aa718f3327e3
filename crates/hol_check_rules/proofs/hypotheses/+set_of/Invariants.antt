use Rattle.std.proofs.Common.{length}
use Rattle.hol_check_rules.proofs.hypotheses.«+set_of».Given as goal

abbrev pub decreases-set_of : goal.decreases-set_of
decreases-set_of l = length l.list.now
