use Rattle.hol_model.specs.Terms.NamedTerm.{height}
use Rattle.hol_taut.proofs.shown.+shown.Given as goal

abbrev pub decreases-shown : goal.decreases-shown
decreases-shown l = height l.term.now
