use Rattle.hol_logtext.proofs.AcceptedLemmas.{logs_read_back}
use Rattle.hol_logtext.proofs.laws.logs_read_back.Goals as goal

pub returns : goal.returns
returns c = logs_read_back
