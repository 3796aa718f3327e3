-- hol_laws_refusals/proofs/converting_refuses/Answers.antt
use Rattle.hol_laws_refusals.proofs.SessionRefusals.{converting-refuses}
use Rattle.hol_laws_refusals.proofs.converting_refuses.Goals as goal

pub returns : goal.returns
returns g c = converting-refuses g.R.Refining.host
