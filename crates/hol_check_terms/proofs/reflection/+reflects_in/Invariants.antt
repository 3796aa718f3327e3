use Rattle.hol_check_terms.proofs.reflection.«+reflects_in».Given as goal

abbrev pub decreases-reflects_in : goal.decreases-reflects_in
decreases-reflects_in l = l.number
