use Rattle.hol_taut_plans.proofs.denials.Denial.«+opposed_below».Given as goal

abbrev pub decreases-opposed_below : goal.decreases-opposed_below
decreases-opposed_below l = l.at
