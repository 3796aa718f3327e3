use Rattle.hol_check_terms.proofs.NamesLemmas.{stored_name}
use Rattle.hol_check_terms.proofs.names.Names.number_of.Goals as goal

pub returns-clause-number : goal.returns-clause-number
returns-clause-number c =
    let stored = c.in_ok-number.ensures.stored in
    stored_name (λ name. name.items) c.insert_full.new.self.keys c.in_ok-number.number c.in_ok-owned.owned stored.0 c.args.name.now stored.1 stored.2 c.in_ok-owned.ensures.items
