use Rattle.std.proofs.Common.{◌+◌, ◌*◌}
use Rattle.hol_tactics_search.proofs.problem.Problem.«+routing».Given as goal

abbrev pub decreases-routes_of : goal.decreases-routes_of
decreases-routes_of l = 3 * l.depth

abbrev pub decreases-routes_of_two : goal.decreases-routes_of_two
decreases-routes_of_two l = 3 * l.depth + 1

abbrev pub decreases-routes_of_iff : goal.decreases-routes_of_iff
decreases-routes_of_iff l = 3 * l.depth + 2

abbrev pub decreases-routes_of_quantified : goal.decreases-routes_of_quantified
decreases-routes_of_quantified l = 3 * l.depth + 1
