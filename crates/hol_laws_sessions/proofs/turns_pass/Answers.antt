use Rattle.hol_laws_sessions.proofs.RunProgress.{turn-passes}
use Rattle.hol_laws_sessions.proofs.turns_pass.Goals as goal

pub returns : goal.returns
returns g c = turn-passes g.T.Toolbox.tools
