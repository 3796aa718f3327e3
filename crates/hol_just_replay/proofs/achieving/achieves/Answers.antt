use Rattle.hol_just.specs.Steps.{goal_of}
use Rattle.hol_just_replay.proofs.AchievingLemmas.{of-value}
use Rattle.hol_just_replay.proofs.achieving.achieves.Goals as goal

pub returns : goal.returns
returns c = of-value (goal_of c.args.goal.now) c.args.theorem.now.theorem c.passes.result c.passes.ensures
