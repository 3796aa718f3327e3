use Rattle.hol_model.specs.Terms.NamedTerm.{height}
use Rattle.hol_taut_chains.proofs.chains.+first_part.Given as goal

abbrev pub decreases-first_part : goal.decreases-first_part
decreases-first_part l = height l.whole.now
