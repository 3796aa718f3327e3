use Rattle.hol_check_terms.proofs.matching.«+fits_generic».Given as goal

abbrev pub decreases-fits_generic : goal.decreases-fits_generic
decreases-fits_generic l = l.generic
