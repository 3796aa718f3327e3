use Rattle.hol_goals.proofs.Made.{stage_made}
use Rattle.hol_goals.proofs.attempt.Attempt.stage.Goals as goal

pub returns-clause-made : goal.returns-clause-made
returns-clause-made c = λ journal made. stage_made journal c.args.self.now c.first.result c.first.ensures made
