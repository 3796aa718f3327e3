use Rattle.hol_laws_refusals.proofs.SmallRefinements.{small-refiners-fit}
use Rattle.hol_laws_refusals.proofs.small_refiners_fit.Goals as goal

pub returns : goal.returns
returns g c = small-refiners-fit g.R.Refining.host
