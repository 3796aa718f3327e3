use Rattle.hol_model.specs.Refining.Refiners.{toward}
use Rattle.hol_just.specs.Steps.{goal_of}
use Rattle.hol_refine.proofs.making.to_stated.Goals as goal

pub returns : goal.returns
returns c stated t is same = c.to_one.ensures (toward (goal_of c.args.goal.now) stated) t (c.in_ok-subgoal.ensures.ok stated is) same
