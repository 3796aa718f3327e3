-- A library stays one as its journal grows.
use Rattle.std.proofs.Common.{sym, subst}
use Rattle.hol_journal.specs.Journal.{Journal}
use Rattle.hol_journal.specs.Growth.{IsGrown}
use Rattle.hol_journal.proofs.GrowthLemmas.{journals-grow}
use Rattle.hol_theorem_store.specs.Stored.{IsStoreOf}
use Rattle.hol_theorem_store.specs.Store.{stored_of}
use Rattle.hol_theorem_store.specs.declared.store.Store.{Store}
use Rattle.hol_theorem_store.proofs.StoreLemmas.{stores-stay}
use Rattle.hol_prelude.specs.HasLogic.{HasLogic}
use Rattle.hol_prelude.specs.declared.stored.Bool.{Bool}
use Rattle.hol_prelude.proofs.StoredLemmas.{logic-stays}
use Rattle.hol_taut_laws.specs.HasLaws.{HasLaws}
use Rattle.hol_taut_laws.specs.declared.stored.Laws.{Laws}
use Rattle.hol_taut_laws.proofs.LawLemmas.{laws-stay}
use Rattle.hol_theorem_library.specs.Library.{IsLibrary, IsContinued, LibrariesContinue}
use Rattle.hol_theorem_library.specs.declared.library.Library.{Library}

pub libraries-continue : LibrariesContinue
libraries-continue old new continued is = record {
  has_logic = subst (λ (logic : Bool). HasLogic new.recorder logic) (sym continued.logic) (logic-stays old.recorder new.recorder old.logic continued.grown is.has_logic);
  has_laws = subst (λ (laws : Laws). HasLaws new.recorder laws) (sym continued.laws) (laws-stay old.recorder new.recorder old.laws continued.grown is.has_laws);
  stored = subst (λ (store : Store). IsStoreOf new.recorder (stored_of store)) (sym continued.stored)
      (stores-stay journals-grow old.recorder new.recorder (stored_of old.store) continued.grown is.stored);
}

-- the library over the logical constants
pub is_new_library : (library : Library) (recorder : Journal) → IsGrown recorder library.recorder → HasLogic recorder library.logic → HasLaws library.recorder library.laws
    → ((journal : Journal) → IsStoreOf journal (stored_of library.store)) → IsLibrary library
is_new_library library recorder grown logic laws empty = record {
  has_logic = logic-stays recorder library.recorder library.logic grown logic;
  has_laws = laws;
  stored = empty library.recorder;
}
