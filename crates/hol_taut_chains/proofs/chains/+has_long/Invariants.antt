use Rattle.hol_model.specs.Terms.NamedTerm.{height}
use Rattle.hol_taut_chains.proofs.chains.+has_long.Given as goal

abbrev pub decreases-has_long : goal.decreases-has_long
decreases-has_long l = height l.term.now
