use Rattle.hol_laws_goals.proofs.ValidProofs.{rotate-valid}
use Rattle.hol_laws_goals.proofs.rotate_is_valid.Goals as goal

pub returns : goal.returns
returns c = rotate-valid
