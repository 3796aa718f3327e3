-- hol_laws_refusals/proofs/expanding_refuses/Answers.antt
use Rattle.hol_laws_refusals.proofs.SessionRefusals.{expanding-refuses}
use Rattle.hol_laws_refusals.proofs.expanding_refuses.Goals as goal

pub returns : goal.returns
returns g c = expanding-refuses g.R.Refining.host
