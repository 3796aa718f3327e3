use Rattle.hol_check_terms.proofs.occurs.«+occurs_in».Given as goal

abbrev pub decreases-occurs_in : goal.decreases-occurs_in
decreases-occurs_in l = l.number
