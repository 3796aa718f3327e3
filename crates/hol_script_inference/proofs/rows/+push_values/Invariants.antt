use Rattle.std.proofs.Common.{length}
use Rattle.hol_script_inference.proofs.rows.+push_values.Given as goal

-- fewer atoms are left
abbrev pub decreases-push_values : goal.decreases-push_values
decreases-push_values l = length l.atoms.now
