use Rattle.hol_laws_sessions.proofs.RunProgress.{begins}
use Rattle.hol_laws_sessions.proofs.runs_begin.Goals as goal

pub returns : goal.returns
returns g c = begins g.T.Toolbox.tools
