use Rattle.hol_goals.proofs.Made.{kept_attempt}
use Rattle.hol_goals.proofs.stack.Stack.revert.Goals as goal

pub returns-in-Some-clause-made : goal.returns-in-Some-clause-made
returns-in-Some-clause-made c = λ journal kept. c.revert.ensures.made journal (kept_attempt journal c.args.self.now c.in-Some.attempt c.in-Some.is kept)
