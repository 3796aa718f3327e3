use Rattle.hol_just.specs.Steps.{goal_of}
use Rattle.hol_just_replay.proofs.AcceptingLemmas.{test-decides}
use Rattle.hol_just_replay.proofs.accepting.achieves_under.Goals as goal

pub returns : goal.returns
returns c extra shows = test-decides c.args.falsity.now.theorem extra (goal_of c.args.goal.now) c.args.theorem.now.theorem c.passes_under.result c.passes_under.ensures shows
