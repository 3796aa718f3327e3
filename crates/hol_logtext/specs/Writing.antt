-- How bytes are put at the end of a text.
use Rattle.std.specs.Prelude.{◌≡◌, ℕ, List, ◌++◌, Result, Ok, Err}

-- the new text is the old one and then what is written, which is told with what follows it
pub record Appends (old new : List ℕ) (written : List ℕ → List ℕ) : Type 0 where
  pub appended : (rest : List ℕ) → new ++ rest ≡ old ++ written rest

-- the new text is the old one and then something
pub record Begins (old new : List ℕ) : Type 0 where
  pub more : List ℕ
  pub is_more : new ≡ old ++ more

-- all was written, or there was no memory and a part was
abbrev pub Writes : {T E : Type 0} → Result T E → List ℕ → List ℕ → (List ℕ → List ℕ) → Type 0
Writes (Ok x) old new written = Appends old new written
Writes (Err error) old new written = Begins old new
