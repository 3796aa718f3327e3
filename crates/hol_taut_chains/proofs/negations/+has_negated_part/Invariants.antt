use Rattle.hol_model.specs.Terms.NamedTerm.{height}
use Rattle.hol_taut_chains.proofs.negations.+has_negated_part.Given as goal

abbrev pub decreases-has_negated_part : goal.decreases-has_negated_part
decreases-has_negated_part l = height l.term.now
