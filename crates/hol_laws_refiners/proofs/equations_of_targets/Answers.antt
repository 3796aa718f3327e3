use Rattle.hol_laws_refiners.proofs.Equations.{equations-of-targets}
use Rattle.hol_laws_refiners.proofs.equations_of_targets.Goals as goal

pub returns : goal.returns
returns c = equations-of-targets
