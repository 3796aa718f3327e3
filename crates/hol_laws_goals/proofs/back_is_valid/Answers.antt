use Rattle.hol_laws_goals.proofs.ValidProofs.{back-valid}
use Rattle.hol_laws_goals.proofs.back_is_valid.Goals as goal

pub returns : goal.returns
returns c = back-valid
