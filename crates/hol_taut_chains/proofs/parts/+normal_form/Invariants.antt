use Rattle.hol_model.specs.Terms.NamedTerm.{height}
use Rattle.hol_taut_chains.proofs.parts.+normal_form.Given as goal

abbrev pub decreases-normal_form : goal.decreases-normal_form
decreases-normal_form l = height l.term.now
