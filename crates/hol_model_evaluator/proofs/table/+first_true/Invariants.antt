use Rattle.std.proofs.Common.{length}
use Rattle.hol_model_evaluator.proofs.table.+first_true.Given as goal

abbrev pub decreases-first_true : goal.decreases-first_true
decreases-first_true l = length l.elements.now
