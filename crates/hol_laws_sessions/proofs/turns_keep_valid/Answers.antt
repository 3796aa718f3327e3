use Rattle.hol_laws_sessions.proofs.ValidTurns.{turn-valid}
use Rattle.hol_laws_sessions.proofs.turns_keep_valid.Goals as goal

pub returns : goal.returns
returns g c = turn-valid g.T.Toolbox.tools
