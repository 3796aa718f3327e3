use Rattle.std.proofs.Common.{length}
use Rattle.hol_model_evaluator.proofs.meanings.+listed_value.Given as goal

abbrev pub decreases-listed_value : goal.decreases-listed_value
decreases-listed_value l = length l.variables.now
