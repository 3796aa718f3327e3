use Rattle.hol_just.specs.Steps.{tree_of}
use Rattle.hol_refine.proofs.Depths.{two_drawn}
use Rattle.hol_refine.proofs.making.by_two.Goals as goal

pub returns : goal.returns
returns c t u is is_second = two_drawn c.args.rule (tree_of c.args.first) (tree_of c.args.second) t u c.step.result c.step.ensures.tree c.step.ensures.err is is_second
