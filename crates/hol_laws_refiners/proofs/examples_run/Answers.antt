use Rattle.hol_laws_refiners.proofs.Examples.{examples-run}
use Rattle.hol_laws_refiners.proofs.examples_run.Goals as goal

pub returns : goal.returns
returns g c = examples-run g.R.Refining.host
