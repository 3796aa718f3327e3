use Rattle.hol_model.specs.Terms.NamedTerm.{height}
use Rattle.hol_taut_chains.proofs.chains.+parts.Given as goal

abbrev pub decreases-parts : goal.decreases-parts
decreases-parts l = height l.chain.now
