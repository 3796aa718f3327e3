use Rattle.hol_taut_chains.proofs.shared.+generalized.Given as goal

abbrev pub decreases-generalized : goal.decreases-generalized
decreases-generalized l = l.at
