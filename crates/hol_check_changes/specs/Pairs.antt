-- Replacements by pairs of numbers (new, old).
use Rattle.std.specs.Prelude.{◌≡◌, ℕ, List, [], ◌∷◌, Some, slice_get, nat_eq, find}
use Rattle.std.specs.Option.{option_map_or}

-- what stands for a number: the first pair for it counts
abbrev pub replaced_number : List (ℕ × ℕ) → ℕ → ℕ
replaced_number pairs old = option_map_or (λ pair. pair.0) (find (λ pair. nat_eq pair.1 old) pairs) old

-- the pairs of numbers name the pairs of values
abbrev pub ArePairs : {Value : Type 0} → List Value → List (ℕ × ℕ) → List (Value × Value) → Type 0
ArePairs values [] [] = Unit {0}
ArePairs values (pair ∷ pairs) (named ∷ rest) = (slice_get values pair.0 ≡ Some named.0) × (slice_get values pair.1 ≡ Some named.1) × ArePairs values pairs rest
ArePairs values _ _ = ⊥
