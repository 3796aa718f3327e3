use Rattle.hol_taut_chains.proofs.sorted.+sorted.Given as goal

abbrev pub decreases-sorted : goal.decreases-sorted
decreases-sorted l = l.most
