use Rattle.std.proofs.Common.{◌+◌, ◌*◌}
use Rattle.hol_check_written.proofs.making.«+number_under».Given as goal

abbrev pub decreases-number_under : goal.decreases-number_under
decreases-number_under l = 2 * l.line

abbrev pub decreases-number_of_body : goal.decreases-number_of_body
decreases-number_of_body l = 2 * l.body + 1
