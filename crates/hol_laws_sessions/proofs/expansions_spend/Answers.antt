use Rattle.hol_laws_sessions.proofs.ToolsValid.{expansions-spend}
use Rattle.hol_laws_sessions.proofs.expansions_spend.Goals as goal

pub returns : goal.returns
returns g c = expansions-spend g.H.Hosted.host
