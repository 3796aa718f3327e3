use Rattle.std.proofs.Common.{length}
use Rattle.hol_model_evaluator.proofs.sequent.+are_true.Given as goal

abbrev pub decreases-are_true : goal.decreases-are_true
decreases-are_true l = length l.terms.now
