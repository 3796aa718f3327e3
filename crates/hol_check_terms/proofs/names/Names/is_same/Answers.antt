use Rattle.hol_check_terms.proofs.NamesLemmas.{same_number-same_name}
use Rattle.hol_check_terms.proofs.names.Names.is_same.Goals as goal

pub returns : goal.returns
returns c = rw (← c.self.view_is) (same_number-same_name (λ name. name.items) c.self.inside.set.keys c.self.invariant c.args.first c.args.second (rw c.self.view_is c.requires.first)
    (rw c.self.view_is c.requires.second))
