-- What was recorded stays made by the recorder.
use Rattle.std.proofs.Common.{◌≡◌, ℕ, List, refl, sym, subst, ap, ◌∙◌, Some}
use Rattle.std.specs.Prelude.{Bool, true, false, cond, slice_get}
use Rattle.std.specs.Str.{bytes_eq}
use Rattle.hol_journal.specs.Journal.{Journal, Recorded}
use Rattle.hol_journal.specs.Growth.{IsGrown}
use Rattle.hol_prelude.specs.HasLogic.{HasLogic}
use Rattle.hol_taut_laws.specs.HasLaws.{HasLaws}
use Rattle.hol_theorem_library.specs.declared.library.Library.{Library}
use Rattle.hol_theorem_library.specs.Library.{IsLibrary}
use Rattle.hol_theorem_store.specs.Stored.{Stored, IsStoreOf, StoresTheorem, KeepsStore}
use Rattle.hol_theorem_store.specs.declared.store.Store.{Store}
use Rattle.hol_theorem_store.specs.Store.{stored_of}
use Rattle.hol_theorem_store.proofs.StoreLemmas.{stores-stay}
use Rattle.hol_script_session.specs.SessionState.{theorem_of, LibrariesGrow}

-- ---- stored theorems

-- a store that keeps what another has
pub kept-made : (journal : Journal) (old new : Stored) → KeepsStore old new → IsStoreOf journal old → IsStoreOf journal new
kept-made journal old new keeps made = record {
  theorems = λ name answer found. made.theorems name answer (sym (keeps.theorems name) ∙ found);
  lemmas = λ number answer found. made.lemmas number answer (ap (λ lemmas. slice_get lemmas number) (sym keeps.lemmas) ∙ found);
}

-- what the names stand for with one theorem more
pub stored_theorem : (answer : Recorded) (name : List ℕ) (old new : Stored) → StoresTheorem old new name answer
    → (other : List ℕ) → theorem_of (new.theorems other) ≡ cond (bytes_eq name other) (Some answer.theorem) (theorem_of (old.theorems other))
stored_theorem answer name old new stores other = ap theorem_of (stores.theorems other) ∙ go (bytes_eq name other)
  where
    go : (test : Bool) → theorem_of (cond test (Some answer) (old.theorems other)) ≡ cond test (Some answer.theorem) (theorem_of (old.theorems other))
    go true = refl
    go false = refl

-- ---- libraries

-- a library whose journal has grown, with what the new recorder made stored
pub libraries-stay : (stay : LibrariesGrow) (old new : Library) → IsLibrary old → IsGrown old.recorder new.recorder → new.logic ≡ old.logic → new.laws ≡ old.laws
    → IsStoreOf new.recorder (stored_of new.store) → IsLibrary new
libraries-stay stay old new known grown logic laws stored = record {
  has_logic = subst (HasLogic new.recorder) (sym logic) (stay.logic old.recorder new.recorder old.logic grown known.has_logic);
  has_laws = subst (HasLaws new.recorder) (sym laws) (stay.laws old.recorder new.recorder old.laws grown known.has_laws);
  stored = stored;
}

-- the same store
pub store-stays : (stay : LibrariesGrow) (old new : Library) → IsLibrary old → IsGrown old.recorder new.recorder → new.logic ≡ old.logic → new.laws ≡ old.laws
    → new.store ≡ old.store → IsLibrary new
store-stays stay old new known grown logic laws same =
    libraries-stay stay old new known grown logic laws
    (stores-stay stay.grow old.recorder new.recorder (stored_of new.store) grown (subst (λ (store : Store). IsStoreOf old.recorder (stored_of store)) (sym same) known.stored))
