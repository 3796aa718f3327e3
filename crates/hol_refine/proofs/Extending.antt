-- What calls leave of a library, one after another.
use Rattle.std.proofs.Common.{◌≡◌, refl, ◌∙◌, ap}
use Rattle.hol_model.specs.Kernel.Theorem.{Theorem}
use Rattle.hol_journal.specs.Journal.{Recorded}
use Rattle.hol_journal.proofs.GrowthLemmas.{journals-grow}
use Rattle.hol_theorem_store.specs.Stored.{theorems_in}
use Rattle.hol_theorem_store.specs.Store.{stored_of}
use Rattle.hol_theorem_library.specs.Library.{IsContinued, store_in}
use Rattle.hol_theorem_library.specs.declared.library.Library.{Library}
use Rattle.hol_refine.specs.Growth.{same-grown}

-- the journal alone has grown

pub store-same : (old new : Library) → IsContinued old new → store_in new ≡ store_in old
store-same old new is = ap (λ store. theorems_in (stored_of store)) is.stored

-- a lemma more

-- one call after another, where the journal alone grows

pub continued-same : (library : Library) → IsContinued library library
continued-same library = record { grown = same-grown library.recorder; theory = refl; logic = refl; laws = refl; stored = refl }

pub continued-twice : (first second third : Library) → IsContinued first second → IsContinued second third → IsContinued first third
continued-twice first second third one two = record {
  grown = journals-grow.twice first.recorder second.recorder third.recorder one.grown two.grown;
  theory = two.theory ∙ one.theory;
  logic = two.logic ∙ one.logic;
  laws = two.laws ∙ one.laws;
  stored = two.stored ∙ one.stored;
}
