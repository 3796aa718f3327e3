use Rattle.std.proofs.Common.{length}
use Rattle.hol_model_evaluator.proofs.table.+push_comparisons.Given as goal

abbrev pub decreases-push_comparisons : goal.decreases-push_comparisons
decreases-push_comparisons l = length l.elements.now
