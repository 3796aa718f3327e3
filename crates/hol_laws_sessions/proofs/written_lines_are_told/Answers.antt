use Rattle.hol_laws_sessions.proofs.WrittenLines.{written-told}
use Rattle.hol_laws_sessions.proofs.written_lines_are_told.Goals as goal

pub returns : goal.returns
returns c = written-told
