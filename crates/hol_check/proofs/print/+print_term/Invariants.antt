use Rattle.hol_check.proofs.print.«+print_term».Given as goal

abbrev pub decreases-print_term : goal.decreases-print_term
decreases-print_term l = l.number
