-- Words, and what they stand for in a table.
use Rattle.std.specs.Prelude.{ℕ, List, [], ◌∷◌, Option, None, Some, if◌then◌else◌}
use Rattle.std.specs.Str.{bytes_eq}

-- what stands under a word in a table
abbrev pub meaning_in : {T : Type 0} → List (List ℕ × T) → List ℕ → Option T
meaning_in [] word = None
meaning_in (entry ∷ entries) word = if bytes_eq word entry.0 then Some entry.1 else meaning_in entries word
