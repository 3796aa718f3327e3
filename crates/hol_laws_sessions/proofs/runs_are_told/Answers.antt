use Rattle.hol_laws_sessions.proofs.ToldRuns.{runs-told}
use Rattle.hol_laws_sessions.proofs.runs_are_told.Goals as goal

pub returns : goal.returns
returns g c = runs-told g.T.Toolbox.tools
