use Rattle.hol_just.specs.Steps.{tree_of}
use Rattle.hol_refine.proofs.Depths.{three_drawn}
use Rattle.hol_refine.proofs.making.by_three.Goals as goal

pub returns : goal.returns
returns c t u v is is_second is_third =
    three_drawn c.args.rule (tree_of c.args.first) (tree_of c.args.second) (tree_of c.args.third) t u v c.step.result c.step.ensures.tree c.step.ensures.err is is_second is_third
