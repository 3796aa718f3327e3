-- The pairs that a look-up gives for the pairs of a line.
use Rattle.std.specs.Prelude.{ℕ, List, Option, None, Some}
use Rattle.std.specs.List.{Any, AllZip}
use Rattle.std.proofs.Common.{Vec, Global}

-- both numbers are given
pub record IsPair (Gives : ℕ → Option ℕ → Type 0) (line pair : ℕ × ℕ) : Type 0 where
  pub new : Gives line.0 (Some pair.0)
  pub old : Gives line.1 (Some pair.1)

-- one of them is not
pub data LacksOne (Gives : ℕ → Option ℕ → Type 0) (line : ℕ × ℕ) : Type 0 where
  no-new : Gives line.0 None → LacksOne Gives line
  no-old : Gives line.1 None → LacksOne Gives line

abbrev pub FindsPairs : (ℕ → Option ℕ → Type 0) → List (ℕ × ℕ) → Option (Vec (ℕ × ℕ) Global) → Type 0
FindsPairs Gives lines None = Any (LacksOne Gives) lines
FindsPairs Gives lines (Some pairs) = AllZip (IsPair Gives) lines pairs.items
