use Rattle.hol_check_terms.proofs.reflection.«+is_fixed».Given as goal

abbrev pub decreases-is_fixed : goal.decreases-is_fixed
decreases-is_fixed l = l.ty
