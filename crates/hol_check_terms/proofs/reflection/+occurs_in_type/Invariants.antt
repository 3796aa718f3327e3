use Rattle.hol_check_terms.proofs.reflection.«+occurs_in_type».Given as goal

abbrev pub decreases-occurs_in_type : goal.decreases-occurs_in_type
decreases-occurs_in_type l = l.ty
