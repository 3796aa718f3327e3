-- Entries of maps that are kept while a term or a type is gone through.
use Rattle.std.specs.Prelude.{◌≡◌, ◌⊎◌, ℕ, List, Some, slice_get}

-- the entry is in the list
abbrev pub IsEntry : {Key Value : Type 0} → List (Key × Value) → Key → Value → Type 0
IsEntry entries key value = (index : ℕ) × (slice_get entries index ≡ Some (key, value))

-- the later list has no entry that is neither in the earlier one nor the new one
abbrev pub HasOnlyAdded : {Key Value : Type 0} → List (Key × Value) → List (Key × Value) → Key → Value → Type 0
HasOnlyAdded {Key} {Value} earlier now key value = (other : Key) (one : Value) → IsEntry now other one → IsEntry earlier other one ⊎ ((other ≡ key) × (one ≡ value))
