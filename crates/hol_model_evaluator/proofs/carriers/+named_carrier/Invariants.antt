use Rattle.std.proofs.Common.{length}
use Rattle.hol_model_evaluator.proofs.carriers.+named_carrier.Given as goal

abbrev pub decreases-named_carrier : goal.decreases-named_carrier
decreases-named_carrier l = length l.carriers.now
