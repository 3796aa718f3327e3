use Rattle.hol_tactics_search.proofs.problem.Problem.«+add_leaves».Given as goal

abbrev pub decreases-add_leaves : goal.decreases-add_leaves
decreases-add_leaves l = l.depth
