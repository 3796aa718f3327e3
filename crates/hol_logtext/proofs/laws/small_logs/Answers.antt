use Rattle.hol_logtext.proofs.SmallLogs.{small_logs}
use Rattle.hol_logtext.proofs.laws.small_logs.Goals as goal

pub returns : goal.returns
returns c = small_logs
