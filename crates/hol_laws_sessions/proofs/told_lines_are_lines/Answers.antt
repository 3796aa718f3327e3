use Rattle.hol_laws_sessions.proofs.OutputLines.{told-lines}
use Rattle.hol_laws_sessions.proofs.told_lines_are_lines.Goals as goal

pub returns : goal.returns
returns c = told-lines
