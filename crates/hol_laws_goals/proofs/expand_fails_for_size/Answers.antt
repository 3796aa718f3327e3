use Rattle.hol_laws_goals.proofs.ValidProofs.{expand-refused}
use Rattle.hol_laws_goals.proofs.expand_fails_for_size.Goals as goal

pub returns : goal.returns
returns c = expand-refused
