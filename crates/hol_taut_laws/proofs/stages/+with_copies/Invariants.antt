use Rattle.std.proofs.Common.{length}
use Rattle.hol_taut_laws.proofs.stages.+with_copies.Given as goal

abbrev pub decreases-with_copies : goal.decreases-with_copies
decreases-with_copies l = length l.more.now
