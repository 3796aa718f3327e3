use Rattle.hol_model.specs.Terms.NamedTerm.{height}
use Rattle.hol_taut_chains.proofs.chains.+places.Given as goal

abbrev pub decreases-places : goal.decreases-places
decreases-places l = height l.term.now
