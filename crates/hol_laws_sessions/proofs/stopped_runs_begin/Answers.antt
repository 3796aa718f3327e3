use Rattle.hol_laws_sessions.proofs.RunProgress.{stopped-begins}
use Rattle.hol_laws_sessions.proofs.stopped_runs_begin.Goals as goal

pub returns : goal.returns
returns g c = stopped-begins g.T.Toolbox.tools
