use Rattle.hol_laws_sessions.proofs.WalkedRuns.{runs-walked}
use Rattle.hol_laws_sessions.proofs.runs_walk.Goals as goal

pub returns : goal.returns
returns g c = runs-walked g.T.Toolbox.tools
