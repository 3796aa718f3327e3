-- What a store keeps.
use Rattle.std.specs.Prelude.{◌≡◌, ℕ, List, [], map, Option, None, Some, slice_get}
use Rattle.std.specs.Option.{option_map}
use Rattle.std.specs.Map.{update}
use Rattle.std.specs.Str.{bytes_eq}
use Rattle.hol_model.specs.declared.fault.Fault.{Fault}
use Rattle.hol_model.specs.declared.fault.Fault.TheVariants.{Memory, NameTaken}
use Rattle.hol_model.specs.Goals.Replays.{Store}
use Rattle.hol_journal.specs.Journal.{Journal, Recorded, IsMade}
use Rattle.hol_journal.specs.Growth.{IsGrown}

-- theorems by name, and lemmas in their order, each with its entry in the journal
pub record Stored : Type 0 where
  pub theorems : List ℕ → Option Recorded
  pub lemmas : List Recorded

-- what a justification may name of them
abbrev pub theorems_in : Stored → Store
theorems_in stored = record { named = λ name. option_map (λ (made : Recorded). made.theorem) (stored.theorems name); lemmas = map (λ (made : Recorded). made.theorem) stored.lemmas }

-- the recorder made all that is stored
pub record IsStoreOf (journal : Journal) (stored : Stored) : Type 0 where
  pub theorems : (name : List ℕ) (made : Recorded) → stored.theorems name ≡ Some made → IsMade journal made
  pub lemmas : (number : ℕ) (made : Recorded) → slice_get stored.lemmas number ≡ Some made → IsMade journal made

pub record IsEmpty (stored : Stored) : Type 0 where
  pub theorems : (name : List ℕ) → stored.theorems name ≡ None
  pub lemmas : stored.lemmas ≡ []

-- the theorem of this name is this one, and all else is as before
pub record StoresTheorem (old new : Stored) (name : List ℕ) (made : Recorded) : Type 0 where
  pub theorems : (other : List ℕ) → new.theorems other ≡ update bytes_eq old.theorems name (Some made) other
  pub lemmas : new.lemmas ≡ old.lemmas

-- the theorems under names are those of before
abbrev pub KeepsTheorems : Stored → Stored → Type 0
KeepsTheorems old new = (name : List ℕ) → new.theorems name ≡ old.theorems name

-- all is as before
pub record KeepsStore (old new : Stored) : Type 0 where
  pub theorems : KeepsTheorems old new
  pub lemmas : new.lemmas ≡ old.lemmas

-- why a name is refused: a theorem has it, or else there is no memory
abbrev pub RefusesName : Option Recorded → Fault → Type 0
RefusesName (Some made) fault = fault ≡ NameTaken
RefusesName None fault = fault ≡ Memory

-- what a recorder made stays its own
abbrev pub StoresStay : Type 0
StoresStay = (old new : Journal) (stored : Stored) → IsGrown old new → IsStoreOf old stored → IsStoreOf new stored
