use Rattle.std.proofs.Common.{refl}
use Rattle.hol_laws_sessions.proofs.expressions_are_spelled.Goals as goal

pub returns : goal.returns
returns c = record { first = refl; second = refl; second_depth = refl; third = refl; third_depth = refl }
