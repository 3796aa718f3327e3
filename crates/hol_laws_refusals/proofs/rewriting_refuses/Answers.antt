use Rattle.hol_laws_refusals.proofs.RewritingRefusals.{rewriting-refuses}
use Rattle.hol_laws_refusals.proofs.rewriting_refuses.Goals as goal

pub returns : goal.returns
returns g c = rewriting-refuses g.C.Converting.conversions
