use Rattle.hol_laws_sessions.proofs.RunProgress.{ends-unfinished}
use Rattle.hol_laws_sessions.proofs.runs_end_unfinished.Goals as goal

pub returns : goal.returns
returns g c = ends-unfinished g.T.Toolbox.tools
