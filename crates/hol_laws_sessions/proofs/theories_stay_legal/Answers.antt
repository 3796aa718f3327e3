use Rattle.hol_laws_sessions.proofs.Turns.{turns-legal}
use Rattle.hol_laws_sessions.proofs.theories_stay_legal.Goals as goal

pub returns : goal.returns
returns g c = turns-legal g.T.Toolbox.tools
