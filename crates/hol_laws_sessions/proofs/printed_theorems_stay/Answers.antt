use Rattle.hol_laws_sessions.proofs.StoredTheorems.{printed-stay}
use Rattle.hol_laws_sessions.proofs.printed_theorems_stay.Goals as goal

pub returns : goal.returns
returns g c = printed-stay g.T.Toolbox.tools
