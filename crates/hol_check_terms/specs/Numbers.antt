-- Numbers of parts that are noted while a term is gone through.
use Rattle.std.specs.Prelude.{◌≡◌, ◌⊎◌, ℕ, List, Bool, Some, slice_get}
use Rattle.hol_check_terms.specs.Table.{IsPut}

-- the number is in the list
abbrev pub IsNoted : List ℕ → ℕ → Type 0
IsNoted numbers number = (index : ℕ) × (slice_get numbers index ≡ Some number)

-- the number is put in, where the answer is the wanted one
pub record IsNotedWhere (answer wanted : Bool) (number : ℕ) (earlier now : List ℕ) : Type 0 where
  pub noted : (now ≡ earlier) ⊎ ((answer ≡ wanted) × IsPut number earlier now)
