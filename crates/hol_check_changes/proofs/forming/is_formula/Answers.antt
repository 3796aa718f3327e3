use Rattle.hol_check_changes.proofs.forming.is_formula.Goals as goal
use Rattle.hol_check_terms.proofs.GrowthLemmas.{IsGrown-trans}

pub returns-clause-grows : goal.returns-clause-grows
returns-clause-grows c = IsGrown-trans c.args.terms.now c.fitting_type.new.terms c.boolean.new.self c.fitting_type.ensures.grows c.boolean.ensures.grows
