use Rattle.std.proofs.Common.{refl}
use Rattle.hol_laws_sessions.proofs.goals_are_kept.Goals as goal

pub returns : goal.returns
returns c = record { stays = refl; turns = refl; goes_back = refl; goes_back_again = refl; ends = refl }
