use Rattle.std.specs.Prelude.{◌+◌, ◌*◌}
use Rattle.hol_model.specs.Terms.HolType.{type_nodes}
use Rattle.hol_journal_log.proofs.writer.Writer.+has_type.Given as goal

abbrev pub decreases-has_type : goal.decreases-has_type
decreases-has_type l = 2 * type_nodes l.ty.now + 1

abbrev pub decreases-is_type_at : goal.decreases-is_type_at
decreases-is_type_at l = 2 * type_nodes l.ty.now
