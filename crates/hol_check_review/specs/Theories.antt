-- Scopes over theories.
use Rattle.std.specs.Prelude.{◌≡◌, ℕ, List, None}
use Rattle.hol_model.specs.Logic.Theory.{Theory, generic_type}
use Rattle.hol_model.specs.Logic.KnownTerm.{is_declared}
use Rattle.hol_model.specs.Texts.Reading.{Scope}

-- the scope knows the constants and the types of the theory, and no variables
pub record IsScopeOf (scope : Scope) (theory : Theory) : Type 0 where
  pub constants : (name : List ℕ) → scope.generic_type name ≡ generic_type theory name
  pub variables : (name : List ℕ) → scope.variable_type name ≡ None
  pub types : (name : List ℕ) → scope.declares_type name ≡ is_declared theory name
