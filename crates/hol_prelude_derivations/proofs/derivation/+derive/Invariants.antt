use Rattle.hol_prelude_derivations.proofs.DerivationSize.{size}
use Rattle.hol_prelude_derivations.proofs.derivation.+derive.Given as goal

abbrev pub decreases-derive : goal.decreases-derive
decreases-derive l = size l.derivation.now
