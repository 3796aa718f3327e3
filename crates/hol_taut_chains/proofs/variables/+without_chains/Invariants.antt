use Rattle.hol_model.specs.Terms.NamedTerm.{height}
use Rattle.hol_taut_chains.proofs.variables.+without_chains.Given as goal

abbrev pub decreases-without_chains : goal.decreases-without_chains
decreases-without_chains l = height l.term.now
