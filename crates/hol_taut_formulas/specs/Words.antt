-- Values of formulas as words: a bit for each of 64 rows.
use Rattle.std.specs.Prelude.{◌≡◌, ◌<◌, ℕ, ◌-◌, ◌^◌, List, Bool, if◌then◌else◌, nat_eq, get_or}
use Rattle.std.specs.Int.{bit_at}
use Rattle.hol_taut_formulas.specs.declared.numbered.Numbered.{Numbered}
use Rattle.hol_taut_formulas.specs.NumberedFormulas.{truth_of}

-- the value in a row
abbrev pub is_set : ℕ → ℕ → Bool
is_set row word = nat_eq (bit_at word row) 1

-- the value of the atom at a place in a row, where the atoms have these words
abbrev pub value_in_row : List ℕ → ℕ → ℕ → Bool
value_in_row columns row place = is_set row (get_or columns place 0)

-- the word of a value that is the same in each row
abbrev pub in_each_row : Bool → ℕ
in_each_row value = if value then 2 ^ 64 - 1 else 0

-- a word has the values of a formula in 64 rows
pub record HasValues (formula : Numbered) (columns : List ℕ) (word : ℕ) : Type 0 where
  pub fits : word < 2 ^ 64
  pub bits : (row : ℕ) → row < 64 → is_set row word ≡ truth_of (value_in_row columns row) formula
