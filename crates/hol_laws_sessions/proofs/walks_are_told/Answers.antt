use Rattle.hol_laws_sessions.proofs.WalkedLines.{walks-are-told}
use Rattle.hol_laws_sessions.proofs.walks_are_told.Goals as goal

pub returns : goal.returns
returns c = walks-are-told
