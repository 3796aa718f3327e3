use Rattle.std.proofs.Common.{length}
use Rattle.hol_model_evaluator.proofs.meanings.+listed_constant.Given as goal

abbrev pub decreases-listed_constant : goal.decreases-listed_constant
decreases-listed_constant l = length l.constants.now
