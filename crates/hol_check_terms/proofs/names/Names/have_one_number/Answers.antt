use Rattle.hol_check_terms.proofs.NamesLemmas.{distinct_names}
use Rattle.hol_check_terms.proofs.names.Names.have_one_number.Goals as goal

pub returns : goal.returns
returns c = rw (← c.self.view_is) (distinct_names (λ name. name.items) c.self.inside.set.keys c.self.invariant)
