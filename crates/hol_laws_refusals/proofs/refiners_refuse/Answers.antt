use Rattle.hol_laws_refusals.proofs.RefinerRefusals.{refiners-refuse}
use Rattle.hol_laws_refusals.proofs.refiners_refuse.Goals as goal

pub returns : goal.returns
returns g c = refiners-refuse g.R.Refining.host
