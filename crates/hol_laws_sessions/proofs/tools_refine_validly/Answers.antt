use Rattle.hol_laws_sessions.proofs.ToolsValid.{tools-valid}
use Rattle.hol_laws_sessions.proofs.tools_refine_validly.Goals as goal

pub returns : goal.returns
returns g c = tools-valid g.H.Hosted.host
