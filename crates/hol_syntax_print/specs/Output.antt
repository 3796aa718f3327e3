-- How bytes are put at the end of a text.
use Rattle.std.specs.Prelude.{◌≡◌, ℕ, List, ◌∷◌, ◌++◌, Bool, true, false}

-- The new text is the old one and then what is written, which is told with what follows it.
pub record Appends (old new : List ℕ) (written : List ℕ → List ℕ) : Type 0 where
  pub appended : (rest : List ℕ) → new ++ rest ≡ old ++ written rest

-- a parenthesis, where it is wanted
abbrev pub opening : Bool → List ℕ → List ℕ
opening true rest = 40 ∷ rest
opening false rest = rest

abbrev pub closing : Bool → List ℕ → List ℕ
closing true rest = 41 ∷ rest
closing false rest = rest
