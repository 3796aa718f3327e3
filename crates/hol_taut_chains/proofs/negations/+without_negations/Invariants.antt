use Rattle.hol_model.specs.Terms.NamedTerm.{height}
use Rattle.hol_taut_chains.proofs.negations.+without_negations.Given as goal

abbrev pub decreases-without_negations : goal.decreases-without_negations
decreases-without_negations l = height l.term.now
