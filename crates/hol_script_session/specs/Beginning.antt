-- What stands when a script begins.
use Rattle.std.specs.Prelude.{◌≡◌, ℕ, List, [], ◌∷◌, Some, None, slice_get}
use Rattle.std.proofs.Common.{Bor}
use Rattle.hol_model.specs.Logic.Logic.{logical_definitions}
use Rattle.hol_model.specs.Logic.Theory.{Theory, generic_type}
use Rattle.hol_model.specs.Logic.KnownTerm.{is_declared}
use Rattle.hol_model.specs.Kernel.Theorem.{Theorem}
use Rattle.hol_model.specs.Texts.Reading.{Scope}
use Rattle.hol_model_sessions.specs.Sessions.{State, with_theorem}
use Rattle.hol_prelude.specs.Prelude.{prelude_theorems}

-- the scope knows the constants and the types of the theory, and no variables
pub record IsScopeOf (scope : Scope) (theory : Theory) : Type 0 where
  pub constants : (name : List ℕ) → scope.generic_type name ≡ generic_type theory name
  pub variables : (name : List ℕ) → scope.variable_type name ≡ None
  pub types : (name : List ℕ) → scope.declares_type name ≡ is_declared theory name

-- the logical constants are defined, and no theorems are stored
abbrev pub logical_state : State
logical_state = record { theory = logical_definitions; variables = λ _. None; theorems = λ _. None }

-- a name, and the number of a theorem among those of the prelude
abbrev pub StoredTheorem : Type 0
StoredTheorem = Bor (List ℕ) × ℕ

-- the name, and the theorem of the number
abbrev pub IsStoredTheorem : StoredTheorem → List ℕ × Theorem → Type 0
IsStoredTheorem stored named = (stored.0.now ≡ named.0) × (slice_get prelude_theorems stored.1 ≡ Some named.1)

-- the same of each entry of a table
abbrev pub AreStoredTheorems : List StoredTheorem → List (List ℕ × Theorem) → Type 0
AreStoredTheorems [] [] = Unit {0}
AreStoredTheorems (stored ∷ table) (named ∷ theorems) = IsStoredTheorem stored named × AreStoredTheorems table theorems
AreStoredTheorems _ _ = ⊥

-- the theorem of this number among those of the prelude was stored under the name
pub record StoresNumbered (old new : State) (name : List ℕ) (number : ℕ) : Type 0 where
  pub stores : (theorem : Theorem) → slice_get prelude_theorems number ≡ Some theorem → new ≡ with_theorem old name theorem
