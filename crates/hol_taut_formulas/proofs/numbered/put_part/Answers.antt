use Rattle.hol_taut_formulas.proofs.PartsLemmas.{part-put}
use Rattle.hol_taut_formulas.proofs.numbered.put_part.Goals as goal

pub returns-clause-ok : goal.returns-clause-ok
returns-clause-ok c = part-put c.args.part _ _ _ c.in_ok-place.ensures.keys c.in_ok-place.ensures.stored
