use Rattle.hol_laws_sessions.proofs.Turns.{no_subgoals-proved}
use Rattle.hol_laws_sessions.proofs.no_subgoals_means_proved.Goals as goal

pub returns : goal.returns
returns g c = no_subgoals-proved g.T.Toolbox.tools
