use Rattle.hol_taut_chains.proofs.pairs.+without_pairs.Given as goal

abbrev pub decreases-without_pairs : goal.decreases-without_pairs
decreases-without_pairs l = l.more
