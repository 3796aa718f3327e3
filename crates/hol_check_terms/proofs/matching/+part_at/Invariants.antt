use Rattle.hol_check_terms.proofs.matching.«+part_at».Given as goal

abbrev pub decreases-part_at : goal.decreases-part_at
decreases-part_at l = l.generic
