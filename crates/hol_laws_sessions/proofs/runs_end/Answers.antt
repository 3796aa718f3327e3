use Rattle.hol_laws_sessions.proofs.RunProgress.{ends}
use Rattle.hol_laws_sessions.proofs.runs_end.Goals as goal

pub returns : goal.returns
returns g c = ends g.T.Toolbox.tools
