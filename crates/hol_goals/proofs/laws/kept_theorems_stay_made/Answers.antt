use Rattle.hol_goals.proofs.Made.{kept_stay_made}
use Rattle.hol_goals.proofs.laws.kept_theorems_stay_made.Goals as goal

pub returns : goal.returns
returns c = kept_stay_made
