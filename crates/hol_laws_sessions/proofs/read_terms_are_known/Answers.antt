use Rattle.hol_laws_sessions.proofs.KnownReadings.{read_terms-known}
use Rattle.hol_laws_sessions.proofs.read_terms_are_known.Goals as goal

pub returns : goal.returns
returns c = read_terms-known
