use Rattle.std.proofs.Common.{length}
use Rattle.hol_model_evaluator.proofs.element.+push_copies.Given as goal

abbrev pub decreases-push_copies : goal.decreases-push_copies
decreases-push_copies l = length l.elements.now
