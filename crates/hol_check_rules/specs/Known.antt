-- What tables of constants and of declared types say of a theory.
use Rattle.std.specs.Prelude.{◌≡◌, ℕ, ◌<◌, List, ◌∷◌, true, Some, None, if◌then◌else◌, slice_get, length}
use Rattle.std.specs.Str.{bytes_eq}
use Rattle.hol_model.specs.Terms.HolType.{HolType}
use Rattle.hol_model.specs.Logic.Theory.{Theory, Entry, generic_type}
use Rattle.hol_model.specs.Logic.KnownTerm.{is_declared}
use Rattle.hol_check_terms.specs.Terms.{TermTable, name_at, type_at}
use Rattle.hol_check_terms.specs.Entries.{IsEntry}
use Rattle.hol_check_terms.specs.Numbers.{IsNoted}

-- a name and a generic type, by their numbers
pub record IsGiven (table : TermTable) (theory : Theory) (name ty : ℕ) : Type 0 where
  pub name_within : name < length table.names
  pub type_within : ty < length table.types
  pub given : generic_type theory (name_at table.names name) ≡ Some (type_at table.types ty)

-- a constant of the theory in the table
pub record IsListed (table : TermTable) (constants : List (ℕ × ℕ)) (name : List ℕ) (ty : HolType) : Type 0 where
  pub name_number : ℕ
  pub type_number : ℕ
  pub listed : IsEntry constants name_number type_number
  pub name_is : slice_get table.names name_number ≡ Some name
  pub type_is : slice_get table.types type_number ≡ Some ty

-- a declared type of the theory in the table
pub record IsListedType (table : TermTable) (declared : List ℕ) (name : List ℕ) : Type 0 where
  pub number : ℕ
  pub listed : IsNoted declared number
  pub name_is : slice_get table.names number ≡ Some name

-- the name of a declared type, by its number
pub record IsDeclaredNumber (table : TermTable) (theory : Theory) (name : ℕ) : Type 0 where
  pub within : name < length table.names
  pub declares : is_declared theory (name_at table.names name) ≡ true

-- the tables list the constants and the declared types of the theory, and nothing else
pub record Knows (table : TermTable) (constants : List (ℕ × ℕ)) (declared : List ℕ) (theory : Theory) : Type 0 where
  pub constants_given : (name ty : ℕ) → IsEntry constants name ty → IsGiven table theory name ty
  pub constants_listed : (name : List ℕ) (ty : HolType) → generic_type theory name ≡ Some ty → IsListed table constants name ty
  pub types_declared : (name : ℕ) → IsNoted declared name → IsDeclaredNumber table theory name
  pub types_listed : (name : List ℕ) → is_declared theory name ≡ true → IsListedType table declared name

-- the tables say what some theory has
pub record HasTheory (table : TermTable) (constants : List (ℕ × ℕ)) (declared : List ℕ) : Type 0 where
  pub theory : Theory
  pub knows : Knows table constants declared theory

-- a further entry gives a constant of a new name its generic type, by their numbers
pub record GivesConstant (table : TermTable) (entry : Entry) (theory : Theory) (name ty : ℕ) : Type 0 where
  pub name_within : name < length table.names
  pub type_within : ty < length table.types
  pub is_new : generic_type theory (name_at table.names name) ≡ None
  pub gives : (other : List ℕ) → generic_type (entry ∷ theory) other ≡ (if bytes_eq (name_at table.names name) other then Some (type_at table.types ty) else generic_type theory other)
  pub keeps : (other : List ℕ) → is_declared (entry ∷ theory) other ≡ is_declared theory other
