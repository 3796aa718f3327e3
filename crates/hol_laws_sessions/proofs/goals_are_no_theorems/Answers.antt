use Rattle.hol_laws_sessions.proofs.HeadlineProofs.{goals-no_theorems}
use Rattle.hol_laws_sessions.proofs.goals_are_no_theorems.Goals as goal

pub returns : goal.returns
returns c = goals-no_theorems
