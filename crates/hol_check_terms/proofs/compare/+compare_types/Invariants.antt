use Rattle.hol_check_terms.proofs.compare.«+compare_types».Given as goal

abbrev pub decreases-compare_types : goal.decreases-compare_types
decreases-compare_types l = l.first
