use Rattle.hol_model.specs.Terms.NamedTerm.{height}
use Rattle.hol_taut_chains.proofs.chains.+has_chain.Given as goal

abbrev pub decreases-has_chain : goal.decreases-has_chain
decreases-has_chain l = height l.term.now
