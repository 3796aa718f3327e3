-- The laws by which negations are taken out of chains of `<=>`.
use Rattle.hol_journal.specs.Journal.{Journal, IsMade}
use Rattle.hol_taut_chains.specs.declared.negations.NegationLaws.{NegationLaws}

-- the recorder made them
pub record HasNegationLaws (journal : Journal) (laws : NegationLaws) : Type 0 where
  pub left : IsMade journal laws.left
  pub right : IsMade journal laws.right
  pub twice : IsMade journal laws.twice
