use Rattle.hol_laws_refusals.proofs.SmallExpansions.{small-goals-fit}
use Rattle.hol_laws_refusals.proofs.small_goals_fit.Goals as goal

pub returns : goal.returns
returns g c = small-goals-fit g.R.Refining.host
