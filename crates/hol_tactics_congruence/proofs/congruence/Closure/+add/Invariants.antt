use Rattle.hol_tactics_congruence.proofs.congruence.Closure.«+add».Given as goal

abbrev pub decreases-add : goal.decreases-add
decreases-add l = l.depth
