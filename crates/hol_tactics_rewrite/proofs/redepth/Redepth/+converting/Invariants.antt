use Rattle.std.proofs.Common.{◌+◌, ◌*◌}
use Rattle.hol_tactics_rewrite.proofs.redepth.Redepth.«+converting».Given as goal

abbrev pub decreases-converted : goal.decreases-converted
decreases-converted l = 3 * l.depth

abbrev pub decreases-whole_converted : goal.decreases-whole_converted
decreases-whole_converted l = 3 * l.depth + 1

abbrev pub decreases-parts_converted : goal.decreases-parts_converted
decreases-parts_converted l = 3 * l.depth + 2

abbrev pub decreases-body_converted : goal.decreases-body_converted
decreases-body_converted l = 3 * l.depth + 1

abbrev pub decreases-operands_converted : goal.decreases-operands_converted
decreases-operands_converted l = 3 * l.depth + 1
