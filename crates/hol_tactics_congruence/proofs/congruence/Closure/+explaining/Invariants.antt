use Rattle.std.proofs.Common.{◌+◌, ◌*◌}
use Rattle.hol_tactics_congruence.proofs.congruence.Closure.«+explaining».Given as goal

abbrev pub decreases-explained : goal.decreases-explained
decreases-explained l = 4 * l.depth

abbrev pub decreases-along : goal.decreases-along
decreases-along l = 4 * l.depth + 3

abbrev pub decreases-by_reason : goal.decreases-by_reason
decreases-by_reason l = 4 * l.depth + 2

abbrev pub decreases-congruence : goal.decreases-congruence
decreases-congruence l = 4 * l.depth + 1
