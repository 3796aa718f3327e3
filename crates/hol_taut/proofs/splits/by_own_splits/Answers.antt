use Rattle.hol_equal.proofs.StepLemmas.{passed_on}
use Rattle.hol_taut.proofs.TautAnswers.{continues-unchanged}
use Rattle.hol_taut.proofs.splits.by_own_splits.Goals as goal

pub deny-requires : goal.deny-requires
deny-requires c = record { laws = c.requires.laws }

pub returns-in_err-denied : goal.returns-in_err-denied
returns-in_err-denied c = record { continues = rw (passed_on c.from_residual.result c.in_err-denied.field-0.0 c.from_residual.ensures.1) (continues-unchanged c.args.recorder.now c.in_err-denied.field-0.0) }

pub split-requires-clause-laws : goal.split-requires-clause-laws
split-requires-clause-laws c = c.requires.laws

pub split-requires-clause-denied : goal.split-requires-clause-denied
split-requires-clause-denied c = c.in_ok-denied.ensures.ok

pub returns : goal.returns
returns c = record { continues = c.split.ensures.continues }
