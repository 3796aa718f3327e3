use Rattle.hol_taut_laws.proofs.LawLemmas.{laws-stay}
use Rattle.hol_taut_laws.proofs.stored.laws_stay.Goals as goal

pub returns : goal.returns
returns c = laws-stay
