use Rattle.hol_laws_sessions.proofs.ValidTurns.{expansions-refused}
use Rattle.hol_laws_sessions.proofs.expansions_are_refused.Goals as goal

pub returns : goal.returns
returns g c = expansions-refused g.T.Toolbox.tools
