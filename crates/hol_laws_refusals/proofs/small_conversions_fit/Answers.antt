use Rattle.hol_laws_refusals.proofs.SmallAnswers.{small-conversions-fit}
use Rattle.hol_laws_refusals.proofs.small_conversions_fit.Goals as goal

pub returns : goal.returns
returns g c = small-conversions-fit g.C.Converting.conversions
