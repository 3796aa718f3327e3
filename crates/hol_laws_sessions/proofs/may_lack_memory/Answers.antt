use Rattle.hol_laws_sessions.proofs.Turns.{may-lack-memory}
use Rattle.hol_laws_sessions.proofs.may_lack_memory.Goals as goal

pub returns : goal.returns
returns g c = may-lack-memory g.T.Toolbox.tools
