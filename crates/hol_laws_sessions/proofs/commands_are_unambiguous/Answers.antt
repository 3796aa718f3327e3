use Rattle.hol_laws_sessions.proofs.UniqueCommands.{commands-unambiguous}
use Rattle.hol_laws_sessions.proofs.commands_are_unambiguous.Goals as goal

pub returns : goal.returns
returns c = commands-unambiguous
