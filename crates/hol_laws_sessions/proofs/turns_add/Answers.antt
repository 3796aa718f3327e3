use Rattle.hol_laws_sessions.proofs.RunProgress.{turns-add}
use Rattle.hol_laws_sessions.proofs.turns_add.Goals as goal

pub returns : goal.returns
returns c = turns-add
