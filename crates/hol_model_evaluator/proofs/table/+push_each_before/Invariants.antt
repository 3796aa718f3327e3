use Rattle.std.proofs.Common.{length}
use Rattle.hol_model_evaluator.proofs.table.+push_each_before.Given as goal

abbrev pub decreases-push_each_before : goal.decreases-push_each_before
decreases-push_each_before l = length l.elements.now
