-- What calls that refine leave of a library.
use Rattle.std.specs.Prelude.{◌≡◌, [], refl}
use Rattle.std.proofs.Common.{sym, ◌∙◌, append-nil}
use Rattle.hol_model.proofs.Logic.Earlier.{earlier-same}
use Rattle.hol_journal.specs.Journal.{Journal}
use Rattle.hol_journal.specs.Growth.{IsGrown}
use Rattle.hol_journal.proofs.GrowthLemmas.{journals-grow}
use Rattle.hol_theorem_store.specs.Stored.{KeepsTheorems}
use Rattle.hol_theorem_store.specs.Store.{stored_of}
use Rattle.hol_theorem_library.specs.declared.library.Library.{Library}

-- the journal has grown, and the theory and the theorems under names are the same; lemmas may have come
pub record IsExtended (old new : Library) : Type 0 where
  pub grown : IsGrown old.recorder new.recorder
  pub theory : new.recorder.theory ≡ old.recorder.theory
  pub names : KeepsTheorems (stored_of old.store) (stored_of new.store)

-- ---- one call after another

pub same-grown : (journal : Journal) → IsGrown journal journal
same-grown journal = record { added = []; entries = sym (append-nil journal.entries); earlier = earlier-same journal.theory journal.theory refl }

pub extended-same : (library : Library) → IsExtended library library
extended-same library = record { grown = same-grown library.recorder; theory = refl; names = λ name. refl }

pub extended-twice : (first second third : Library) → IsExtended first second → IsExtended second third → IsExtended first third
extended-twice first second third one two = record {
  grown = journals-grow.twice first.recorder second.recorder third.recorder one.grown two.grown;
  theory = two.theory ∙ one.theory;
  names = λ name. two.names name ∙ one.names name;
}
