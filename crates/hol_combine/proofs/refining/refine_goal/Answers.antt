use Rattle.hol_laws_refiners.proofs.Later.{runs-later}
use Rattle.hol_combine.proofs.Posing.{grounded-after, answer-good}
use Rattle.hol_combine.proofs.refining.refine_goal.Goals as goal

pub returns-clause-valid : goal.returns-clause-valid
returns-clause-valid g c = answer-good _ _ c.run.result c.run.ensures.outcome c.requires.posed

pub returns-clause-later : goal.returns-clause-later
returns-clause-later g c = runs-later _ _ c.run.ensures.outcome

pub returns-clause-store : goal.returns-clause-store
returns-clause-store g c = (grounded-after _ _ c.run.ensures.outcome c.requires.posed.grounded).proved
