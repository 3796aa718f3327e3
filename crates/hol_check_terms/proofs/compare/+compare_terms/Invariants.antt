use Rattle.hol_check_terms.proofs.compare.«+compare_terms».Given as goal

abbrev pub decreases-compare_terms : goal.decreases-compare_terms
decreases-compare_terms l = l.first
