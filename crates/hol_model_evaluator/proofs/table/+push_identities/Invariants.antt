use Rattle.std.proofs.Common.{length}
use Rattle.hol_model_evaluator.proofs.table.+push_identities.Given as goal

abbrev pub decreases-push_identities : goal.decreases-push_identities
decreases-push_identities l = length l.elements.now
