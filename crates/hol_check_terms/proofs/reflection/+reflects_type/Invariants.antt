use Rattle.hol_check_terms.proofs.reflection.«+reflects_type».Given as goal

abbrev pub decreases-reflects_type : goal.decreases-reflects_type
decreases-reflects_type l = l.ty
