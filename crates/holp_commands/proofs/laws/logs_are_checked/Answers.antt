use Rattle.holp_commands.proofs.CheckedLemmas.{logs_are_checked}
use Rattle.holp_commands.proofs.laws.logs_are_checked.Goals as goal

pub returns : goal.returns
returns c = logs_are_checked
