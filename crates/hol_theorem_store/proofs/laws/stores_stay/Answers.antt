use Rattle.hol_theorem_store.proofs.StoreLemmas.{stores-stay}
use Rattle.hol_theorem_store.proofs.laws.stores_stay.Goals as goal

pub returns : goal.returns
returns c = stores-stay c.journals_grow.ensures
