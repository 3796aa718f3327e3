use Rattle.hol_laws_goals.proofs.ValidProofs.{revert-valid}
use Rattle.hol_laws_goals.proofs.revert_is_valid.Goals as goal

pub returns : goal.returns
returns c = revert-valid
