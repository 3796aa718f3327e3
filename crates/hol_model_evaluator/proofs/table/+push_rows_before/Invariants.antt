use Rattle.std.proofs.Common.{length}
use Rattle.hol_model_evaluator.proofs.table.+push_rows_before.Given as goal

abbrev pub decreases-push_rows_before : goal.decreases-push_rows_before
decreases-push_rows_before l = length l.rows.now
