use Rattle.hol_model.specs.Terms.NamedTerm.{height}
use Rattle.hol_taut.proofs.known.+known_value.Given as goal

abbrev pub decreases-known_value : goal.decreases-known_value
decreases-known_value l = height l.term.now
