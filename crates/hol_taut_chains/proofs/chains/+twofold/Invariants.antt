use Rattle.hol_model.specs.Terms.NamedTerm.{height}
use Rattle.hol_taut_chains.proofs.chains.+twofold.Given as goal

abbrev pub decreases-twofold : goal.decreases-twofold
decreases-twofold l = height l.chain.now
