use Rattle.hol_laws_sessions.proofs.KnownVariables.{scope-over}
use Rattle.hol_laws_sessions.proofs.scopes_are_over.Goals as goal

pub returns : goal.returns
returns c = scope-over
