use Rattle.hol_laws_goals.proofs.ValidProofs.{expand-valid}
use Rattle.hol_laws_goals.proofs.expand_is_valid.Goals as goal

pub returns : goal.returns
returns c = expand-valid
