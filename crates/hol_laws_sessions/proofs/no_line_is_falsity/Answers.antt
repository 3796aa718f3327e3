use Rattle.hol_laws_sessions.proofs.HeadlineProofs.{no_line-falsity}
use Rattle.hol_laws_sessions.proofs.no_line_is_falsity.Goals as goal

pub returns : goal.returns
returns c = no_line-falsity c.consistent.ensures
