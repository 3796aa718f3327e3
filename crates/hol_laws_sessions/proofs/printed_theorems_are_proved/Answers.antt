use Rattle.hol_laws_sessions.proofs.Turns.{printed-proved}
use Rattle.hol_laws_sessions.proofs.printed_theorems_are_proved.Goals as goal

pub returns : goal.returns
returns g c = printed-proved g.T.Toolbox.tools
