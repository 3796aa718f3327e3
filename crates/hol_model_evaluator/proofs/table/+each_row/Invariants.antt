use Rattle.std.proofs.Common.{length}
use Rattle.hol_model_evaluator.proofs.table.+each_row.Given as goal

abbrev pub decreases-each_row : goal.decreases-each_row
decreases-each_row l = length l.arguments.now
