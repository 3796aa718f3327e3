use Rattle.hol_laws_refiners.proofs.StopsRunning.{conversions-spend}
use Rattle.hol_laws_refiners.proofs.conversions_spend.Goals as goal

pub returns : goal.returns
returns g c = conversions-spend g.C.Converting.conversions
