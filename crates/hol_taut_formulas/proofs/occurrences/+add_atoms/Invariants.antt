use Rattle.hol_model.specs.Terms.NamedTerm.{height}
use Rattle.hol_taut_formulas.proofs.occurrences.+add_atoms.Given as goal

abbrev pub decreases-add_atoms : goal.decreases-add_atoms
decreases-add_atoms l = height l.term.now
