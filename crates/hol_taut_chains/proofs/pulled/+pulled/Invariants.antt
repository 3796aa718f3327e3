use Rattle.hol_model.specs.Terms.NamedTerm.{height}
use Rattle.hol_taut_chains.proofs.pulled.+pulled.Given as goal

abbrev pub decreases-pulled : goal.decreases-pulled
decreases-pulled l = height l.chain.now
