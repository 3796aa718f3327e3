use Rattle.hol_theorem_library.proofs.Continuing.{libraries-continue}
use Rattle.hol_theorem_library.proofs.laws.libraries_continue.Goals as goal

pub returns : goal.returns
returns c = libraries-continue
