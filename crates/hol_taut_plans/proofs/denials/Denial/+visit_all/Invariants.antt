use Rattle.hol_taut_plans.proofs.denials.Denial.«+visit_all».Given as goal

abbrev pub decreases-visit_all : goal.decreases-visit_all
decreases-visit_all l = l.at
