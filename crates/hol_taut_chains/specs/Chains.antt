-- The laws by which chains of `<=>` are shortened.
use Rattle.hol_journal.specs.Journal.{Journal, IsMade}
use Rattle.hol_taut_chains.specs.declared.pulled.ChainLaws.{ChainLaws}

-- the recorder made them
pub record HasChainLaws (journal : Journal) (laws : ChainLaws) : Type 0 where
  pub truth : IsMade journal laws.truth
  pub commuted : IsMade journal laws.commuted
  pub exchanged : IsMade journal laws.exchanged
  pub paired : IsMade journal laws.paired
