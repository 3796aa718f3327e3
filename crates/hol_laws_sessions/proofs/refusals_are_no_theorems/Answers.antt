use Rattle.hol_laws_sessions.proofs.HeadlineProofs.{refusals-no_theorems}
use Rattle.hol_laws_sessions.proofs.refusals_are_no_theorems.Goals as goal

pub returns : goal.returns
returns c = refusals-no_theorems
