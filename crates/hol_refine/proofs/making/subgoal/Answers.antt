use Rattle.hol_model.specs.Goals.Justifications.{sub}
use Rattle.hol_refine.proofs.Depths.{made}
use Rattle.hol_refine.proofs.making.subgoal.Goals as goal

pub returns : goal.returns
returns c = made (sub c.args.number) c.sub.result c.sub.ensures.tree c.sub.ensures.err
