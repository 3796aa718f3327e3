use Rattle.hol_taut_plans.proofs.planner.Planner.«+show».Given as goal

abbrev pub decreases-show : goal.decreases-show
decreases-show l = l.at
