use Rattle.hol_laws_goals.proofs.ValidProofs.{set-valid}
use Rattle.hol_laws_goals.proofs.set_is_valid.Goals as goal

pub returns : goal.returns
returns c = set-valid
