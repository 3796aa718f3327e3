-- The variables that are free in a term, as a fact.
use Rattle.std.specs.Prelude.{◌≡◌, ◌⊎◌, List, ℕ, false}
use Rattle.hol_model.specs.Terms.HolType.{HolType}
use Rattle.hol_model.specs.Terms.NamedTerm.{NamedTerm, variable, constant, combination, abstraction, same_variable}

-- the variable of this name and type is free in the term
abbrev pub IsFreeIn : List ℕ → HolType → NamedTerm → Type 0
IsFreeIn name ty (variable other s) = (name ≡ other) × (ty ≡ s)
IsFreeIn name ty (constant other s) = ⊥
IsFreeIn name ty (combination function argument) = IsFreeIn name ty function ⊎ IsFreeIn name ty argument
IsFreeIn name ty (abstraction other s body) = IsFreeIn name ty body × (same_variable other s name ty ≡ false)
