use Rattle.hol_goals.proofs.attempt.Attempt.conclude.Goals as goal

pub returns-clause-made : goal.returns-clause-made
returns-clause-made c = λ journal made kept. c.advance.ensures.made journal kept made

pub returns-in_err-advance-clause-made : goal.returns-in_err-advance-clause-made
returns-in_err-advance-clause-made c = λ journal made kept. c.advance.ensures.made journal kept made
