use Rattle.hol_laws_refiners.proofs.StopsRunning.{refiners-spend}
use Rattle.hol_laws_refiners.proofs.refiners_spend.Goals as goal

pub returns : goal.returns
returns g c = refiners-spend g.R.Refining.host
