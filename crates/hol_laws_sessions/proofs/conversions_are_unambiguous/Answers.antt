use Rattle.hol_laws_sessions.proofs.UniqueConversions.{conversions-unambiguous}
use Rattle.hol_laws_sessions.proofs.conversions_are_unambiguous.Goals as goal

pub returns : goal.returns
returns c = conversions-unambiguous
