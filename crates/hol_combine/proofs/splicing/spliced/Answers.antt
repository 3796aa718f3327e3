use Rattle.hol_just.specs.Steps.{goals_of, tree_of}
use Rattle.hol_combine.proofs.Gathering.{refused_parts, made_parts}
use Rattle.hol_combine.proofs.splicing.spliced.Goals as goal

pub returns-in-Err : goal.returns-in-Err
returns-in-Err c = refused_parts (tree_of c.args.just) c.args.steps.items c.in-Err.fault c.in-Err.ensures.err

pub returns-in-Ok : goal.returns-in-Ok
returns-in-Ok c =
    made_parts (tree_of c.args.just) c.args.steps.items (goals_of c.in-Ok.step.goals.items) (tree_of c.in-Ok.step.just) c.in-Ok.ensures.tree c.in-Ok.ensures.within c.in-Ok.ensures.goals
