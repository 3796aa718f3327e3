use Rattle.hol_just.specs.Steps.{tree_of}
use Rattle.hol_refine.proofs.Depths.{one_drawn}
use Rattle.hol_refine.proofs.making.by_one.Goals as goal

pub returns : goal.returns
returns c t is = one_drawn c.args.rule (tree_of c.args.part) t c.step.result c.step.ensures.tree c.step.ensures.err is
