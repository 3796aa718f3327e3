use Rattle.hol_journal_log.proofs.LogClaims.{logs-accepted}
use Rattle.hol_journal_log.proofs.log_laws.journal_logs_are_accepted.Goals as goal

pub returns : goal.returns
returns c = logs-accepted
