-- What a recorder made stays its own as the journal grows.
use Rattle.std.proofs.Common.{List, [], sym, refl, append-nil}
use Rattle.hol_model.proofs.Logic.Earlier.{earlier-same}
use Rattle.hol_journal.specs.Journal.{Journal, Recorded}
use Rattle.hol_journal.specs.Growth.{IsGrown}
use Rattle.hol_journal.proofs.GrowthLemmas.{journals-grow}
use Rattle.hol_prelude_derivations.specs.Derivations.{AreMade}

-- the journal as it was
pub same-grown : (journal : Journal) → IsGrown journal journal
same-grown journal = record { added = []; entries = sym (append-nil journal.entries); earlier = earlier-same journal.theory journal.theory refl }

pub made-stay : (old new : Journal) (all : List Recorded) → IsGrown old new → AreMade old all → AreMade new all
made-stay old new all grown made = record { each = λ number r there. journals-grow.stays old new r grown (made.each number r there) }
