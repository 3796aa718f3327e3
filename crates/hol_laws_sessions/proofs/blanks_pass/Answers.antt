use Rattle.hol_laws_sessions.proofs.RunProgress.{blank-passes}
use Rattle.hol_laws_sessions.proofs.blanks_pass.Goals as goal

pub returns : goal.returns
returns g c = blank-passes g.T.Toolbox.tools
