use Rattle.std.proofs.Common.{length}
use Rattle.hol_prelude_derivations.proofs.making.+make_all.Given as goal

abbrev pub decreases-make_all : goal.decreases-make_all
decreases-make_all l = length l.makings.now
