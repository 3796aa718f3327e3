use Rattle.hol_laws_goals.proofs.ValidProofs.{proofs-stay}
use Rattle.hol_laws_goals.proofs.proofs_stay_valid.Goals as goal

pub returns : goal.returns
returns c = proofs-stay
