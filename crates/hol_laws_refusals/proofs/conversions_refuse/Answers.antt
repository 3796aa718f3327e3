use Rattle.hol_laws_refusals.proofs.ConversionRefusals.{conversions-refuse}
use Rattle.hol_laws_refusals.proofs.conversions_refuse.Goals as goal

pub returns : goal.returns
returns g c = conversions-refuse g.C.Converting.conversions
