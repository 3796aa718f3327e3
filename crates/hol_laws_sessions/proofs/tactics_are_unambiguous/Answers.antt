use Rattle.hol_laws_sessions.proofs.UniqueTactics.{tactics-unambiguous}
use Rattle.hol_laws_sessions.proofs.tactics_are_unambiguous.Goals as goal

pub returns : goal.returns
returns c = tactics-unambiguous
