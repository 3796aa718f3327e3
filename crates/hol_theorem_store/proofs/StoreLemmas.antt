-- What a recorder made stays its own, in the store and out of it.
use Rattle.std.proofs.Common.{◌≡◌, ℕ, List, Bool, true, false, cond, Option, Some, None, IfSome, Bor, sym, ap, subst, ◌∙◌}
use Rattle.std.specs.Prelude.{slice_get}
use Rattle.std.specs.Option.{option_map}
use Rattle.std.specs.Str.{bytes_eq}
use Rattle.hol_journal.specs.Journal.{Journal, Recorded, IsMade}
use Rattle.hol_journal.specs.Growth.{JournalsGrow}
use Rattle.hol_theorem_store.specs.Stored.{Stored, IsStoreOf, StoresTheorem, StoresStay}

pub stores-stay : JournalsGrow → StoresStay
stores-stay grow old new stored grown is = record {
  theorems = λ name made found. grow.stays old new made grown (is.theorems name made found);
  lemmas = λ number made found. grow.stays old new made grown (is.lemmas number made found);
}

pub found-made : (journal : Journal) (stored : Stored) (name : List ℕ) (found : Option (Bor Recorded)) → option_map (λ (theorem : Bor Recorded). theorem.now) found ≡ stored.theorems name
    → IsStoreOf journal stored → IfSome found (λ theorem. IsMade journal theorem.now)
found-made journal stored name None same is = tt
found-made journal stored name (Some theorem) same is = is.theorems name theorem.now (sym same)

pub stored-made : (journal : Journal) (old new : Stored) (name : List ℕ) (made : Recorded) → StoresTheorem old new name made → IsStoreOf journal old → IsMade journal made → IsStoreOf journal new
stored-made journal old new name made stores is is_made = record {
  theorems = λ other found same. go other found (bytes_eq name other) (sym (stores.theorems other) ∙ same);
  lemmas = λ number found same. is.lemmas number found (ap (λ lemmas. slice_get lemmas number) (sym stores.lemmas) ∙ same);
}
  where
    go : (other : List ℕ) (found : Recorded) (test : Bool) → cond test (Some made) (old.theorems other) ≡ Some found → IsMade journal found
    go other found true same = (let one : made ≡ found = cc in subst (IsMade journal) one is_made)
    go other found false same = is.theorems other found same
