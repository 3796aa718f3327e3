use Rattle.hol_just.specs.Steps.{goal_of}
use Rattle.hol_goals.proofs.Closings.{test_is}
use Rattle.hol_goals.proofs.closing.achieves.Goals as goal

pub returns : goal.returns
returns c = test_is (goal_of c.args.goal.now) c.args.theorem.now.theorem c.achieves.result c.achieves.ensures
