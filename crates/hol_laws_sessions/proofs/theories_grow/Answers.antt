use Rattle.hol_laws_sessions.proofs.Turns.{session-grows}
use Rattle.hol_laws_sessions.proofs.theories_grow.Goals as goal

pub returns : goal.returns
returns g c = session-grows g.T.Toolbox.tools
