use Rattle.hol_laws_steps.proofs.FewerHypotheses.{justifications-monotone}
use Rattle.hol_laws_steps.proofs.monotone.Goals as goal

pub returns : goal.returns
returns c = justifications-monotone
