use Rattle.std.proofs.Common.{refl}
use Rattle.hol_laws_sessions.proofs.texts_are_said.Goals as goal

pub returns : goal.returns
returns c = record { none = refl; first = refl; lines = refl; row = refl; no_atoms = refl }
