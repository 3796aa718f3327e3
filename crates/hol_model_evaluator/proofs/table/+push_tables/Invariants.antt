use Rattle.std.proofs.Common.{length}
use Rattle.hol_model_evaluator.proofs.table.+push_tables.Given as goal

abbrev pub decreases-push_tables : goal.decreases-push_tables
decreases-push_tables l = length l.rows.now
