use Rattle.hol_taut_plans.proofs.refutations.+refuted.Given as goal

abbrev pub decreases-refuted : goal.decreases-refuted
decreases-refuted l = l.most
