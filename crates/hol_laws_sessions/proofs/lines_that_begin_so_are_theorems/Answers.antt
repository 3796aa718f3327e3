use Rattle.hol_laws_sessions.proofs.HeadlineProofs.{theorems-seen}
use Rattle.hol_laws_sessions.proofs.lines_that_begin_so_are_theorems.Goals as goal

pub returns : goal.returns
returns c = theorems-seen
