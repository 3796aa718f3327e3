use Rattle.hol_laws_steps.proofs.FewerHypotheses.{rules-monotone}
use Rattle.hol_laws_steps.proofs.rules_are_monotone.Goals as goal

pub returns : goal.returns
returns c = rules-monotone
