use Rattle.hol_model.specs.Terms.NamedTerm.{height}
use Rattle.hol_taut_chains.proofs.chains.+is_sorted.Given as goal

abbrev pub decreases-is_sorted : goal.decreases-is_sorted
decreases-is_sorted l = height l.chain.now
