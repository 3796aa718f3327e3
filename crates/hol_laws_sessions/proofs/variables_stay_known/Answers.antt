use Rattle.hol_laws_sessions.proofs.KnownVariables.{variables-stay}
use Rattle.hol_laws_sessions.proofs.variables_stay_known.Goals as goal

pub returns : goal.returns
returns g c = variables-stay g.T.Toolbox.tools
