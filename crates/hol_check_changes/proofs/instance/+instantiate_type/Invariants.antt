use Rattle.hol_check_changes.proofs.instance.«+instantiate_type».Given as goal

abbrev pub decreases-instantiate_type : goal.decreases-instantiate_type
decreases-instantiate_type l = l.ty
