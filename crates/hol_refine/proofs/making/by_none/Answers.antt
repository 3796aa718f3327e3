use Rattle.hol_refine.proofs.Depths.{none_drawn}
use Rattle.hol_refine.proofs.making.by_none.Goals as goal

pub returns : goal.returns
returns c = none_drawn c.args.rule c.step.result c.step.ensures.tree c.step.ensures.err
