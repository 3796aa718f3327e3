use Rattle.hol_check_terms.proofs.OccursLemmas.{nothing-noted}
use Rattle.hol_check_terms.proofs.occurs.occurs_free.Goals as goal

pub returns-clause-found : goal.returns-clause-found
returns-clause-found c = λ name ty there.
    (c.occurs_in.ensures.found name ty there (nothing-noted c.args.terms.now.terms name ty c.new-absent.result.keys c.new-absent.ensures.empty)).found
