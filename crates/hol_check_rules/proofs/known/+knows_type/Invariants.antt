use Rattle.hol_check_rules.proofs.known.«+knows_type».Given as goal

abbrev pub decreases-knows_type : goal.decreases-knows_type
decreases-knows_type l = l.ty
