-- What holds of a library, and what calls that make theorems leave of it.
use Rattle.std.specs.Prelude.{◌≡◌}
use Rattle.hol_model.specs.Goals.Replays as replays
use Rattle.hol_journal.specs.Growth.{IsGrown}
use Rattle.hol_theorem_store.specs.Stored.{IsStoreOf, theorems_in}
use Rattle.hol_theorem_store.specs.Store.{stored_of}
use Rattle.hol_prelude.specs.HasLogic.{HasLogic}
use Rattle.hol_taut_laws.specs.HasLaws.{HasLaws}
use Rattle.hol_theorem_library.specs.declared.library.Library.{Library}

-- the recorder made the theorems of the prelude, the laws of the connectives and what is stored
pub record IsLibrary (library : Library) : Type 0 where
  pub has_logic : HasLogic library.recorder library.logic
  pub has_laws : HasLaws library.recorder library.laws
  pub stored : IsStoreOf library.recorder (stored_of library.store)

-- the theorems that may be named, and the lemmas
abbrev pub store_in : Library → replays.Store
store_in library = theorems_in (stored_of library.store)

-- The journal has grown; the theory and what is kept beside the recorder are the same.
pub record IsContinued (old new : Library) : Type 0 where
  pub grown : IsGrown old.recorder new.recorder
  pub theory : new.recorder.theory ≡ old.recorder.theory
  pub logic : new.logic ≡ old.logic
  pub laws : new.laws ≡ old.laws
  pub stored : new.store ≡ old.store

-- it stays a library
abbrev pub LibrariesContinue : Type 0
LibrariesContinue = (old new : Library) → IsContinued old new → IsLibrary old → IsLibrary new
