use Rattle.hol_check.proofs.print.«+print_type».Given as goal

abbrev pub decreases-print_type : goal.decreases-print_type
decreases-print_type l = l.number
