use Rattle.std.proofs.Common.{◌+◌, ◌*◌}
use Rattle.hol_check_terms.proofs.typing.«+type_under».Given as goal

abbrev pub decreases-type_under : goal.decreases-type_under
decreases-type_under l = 2 * l.number

abbrev pub decreases-type_of_body : goal.decreases-type_of_body
decreases-type_of_body l = 2 * l.body + 1
