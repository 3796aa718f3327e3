-- Terms as lines write them: terms with names, whose images are the terms of the lines.
use Rattle.std.specs.Prelude.{◌≡◌, ◌⊎◌, ◌<◌, ◌≤◌, ℕ, List, [], length, Bool, true, false, Some, slice_get, Result, Ok, Err}
use Rattle.std.specs.List.{slice_index_or}
use Rattle.hol_model.specs.declared.limits.TheConstants.{TERM_HEIGHT_LIMIT, TERM_NODES_LIMIT}
use Rattle.hol_model.specs.declared.fault.Fault.{Fault}
use Rattle.hol_model.specs.declared.fault.Fault.TheVariants.{Memory, TooLarge}
use Rattle.hol_model.specs.Terms.HolType.{HolType, bool_type, function_type}
use Rattle.hol_model.specs.Terms.NamedTerm.{NamedTerm, variable, constant, combination, abstraction, type_of, height, nodes, types_fit, is_free, is_within_limits}
use Rattle.hol_model.specs.Terms.Nameless.{Nameless, free, const}
use Rattle.hol_model.specs.Logs.LogSequents.{variable_name}
use Rattle.hol_model.specs.Logs.LogState.{term_type}
use Rattle.hol_check_terms.specs.Table.{values_after, HoldsOfEach}
use Rattle.hol_check_terms.specs.Terms.{TermTable, type_at, term_at, IsGrown}
use Rattle.hol_check_written.specs.Variables.{IsAmong}
use Rattle.hol_check_written.specs.declared.variables.Variables.{Variables}
use Rattle.hol_check_written.specs.declared.written.Written.{Written}
use Rattle.hol_check_written.specs.declared.written.WrittenShape.{WrittenShape}
use Rattle.hol_check_written.specs.declared.written.WrittenShape.TheVariants.{Variable, Constant, Application, Abstraction}

-- what lines write

-- a constant with its name
abbrev pub named_constant : Nameless → NamedTerm
named_constant (const name ty) = constant name ty
named_constant _ = constant [] bool_type

-- what the line of a number writes
abbrev pub named_at : List NamedTerm → ℕ → NamedTerm
named_at named line = slice_index_or named line (constant [] bool_type)

-- what a line of this shape writes after what earlier lines write
abbrev pub named_of_shape : List Nameless → List NamedTerm → WrittenShape → NamedTerm
named_of_shape terms earlier (Variable number) = variable (variable_name (term_at terms number)) (term_type (term_at terms number))
named_of_shape terms earlier (Constant number) = named_constant (term_at terms number)
named_of_shape terms earlier (Application function argument) = combination (named_at earlier function) (named_at earlier argument)
named_of_shape terms earlier (Abstraction binder body) = abstraction (variable_name (term_at terms binder)) (term_type (term_at terms binder)) (named_at earlier body)

abbrev pub named_of : List Nameless → List NamedTerm → Written → NamedTerm
named_of terms earlier written = named_of_shape terms earlier written.shape

-- what lines write, one after another
abbrev pub named_terms : List Nameless → List Written → List NamedTerm
named_terms terms written = values_after (named_of terms) [] written

-- a type of functions
abbrev pub is_function : HolType → Bool
is_function (function_type domain codomain) = true
is_function _ = false

-- what holds of them

-- the number is that of a variable, and of a constant

pub record IsFree (terms : List Nameless) (number : ℕ) : Type 0 where
  pub name : List ℕ
  pub ty : HolType
  pub is_variable : slice_get terms number ≡ Some (free name ty)

pub record IsConstant (terms : List Nameless) (number : ℕ) : Type 0 where
  pub name : List ℕ
  pub ty : HolType
  pub is_constant : slice_get terms number ≡ Some (const name ty)

-- the parts of a term stand in the tables or in earlier lines
abbrev pub PartsAreEarlier : List Nameless → ℕ → WrittenShape → Type 0
PartsAreEarlier terms place (Variable number) = IsFree terms number
PartsAreEarlier terms place (Constant number) = IsConstant terms number
PartsAreEarlier terms place (Application function argument) = (function < place) × (argument < place)
PartsAreEarlier terms place (Abstraction binder body) = IsFree terms binder × (body < place)

-- the variable of this name and type stands in the tables, and is among these
pub record IsCounted (terms : List Nameless) (variables : Variables) (name : List ℕ) (ty : HolType) : Type 0 where
  pub number : ℕ
  pub is_there : slice_get terms number ≡ Some (free name ty)
  pub among : IsAmong variables number

-- each variable that is free in the term is among these
abbrev pub AreCounted : List Nameless → NamedTerm → Variables → Type 0
AreCounted terms term variables = (name : List ℕ) (ty : HolType) → is_free name ty term ≡ true → IsCounted terms variables name ty

-- what is kept of a term is true of it, and it is within the limits
pub record Writes (table : TermTable) (term : NamedTerm) (written : Written) : Type 0 where
  pub type_within : written.ty < length table.types
  pub typed : type_of term ≡ Some (type_at table.types written.ty)
  pub height_is : written.height ≡ height term
  pub nodes_are : written.nodes ≡ nodes term
  pub height_fits : written.height ≤ TERM_HEIGHT_LIMIT
  pub nodes_fit : written.nodes ≤ TERM_NODES_LIMIT
  pub types_are : types_fit term ≡ true
  pub counted : AreCounted table.terms term written.variables

-- a term is written so
pub record IsWritten (table : TermTable) (written : Written) : Type 0 where
  pub term : NamedTerm
  pub writes : Writes table term written

pub record IsWrittenLine (table : TermTable) (terms : List NamedTerm) (place : ℕ) (written : Written) : Type 0 where
  pub parts : PartsAreEarlier table.terms place written.shape
  pub writes : Writes table (named_at terms place) written

abbrev pub AreWritten : TermTable → List Written → Type 0
AreWritten table written = HoldsOfEach (IsWrittenLine table (named_terms table.terms written)) written

-- a term of this shape is written; only memory that is used up, or a limit that it passes, refuses it

pub record IsShaped (table : TermTable) (term : NamedTerm) (shape : WrittenShape) (written : Written) : Type 0 where
  pub is_shape : written.shape ≡ shape
  pub writes : Writes table term written

abbrev pub IsWrittenAnswer : TermTable → NamedTerm → WrittenShape → Result Written Fault → Type 0
IsWrittenAnswer table term shape (Ok written) = IsShaped table term shape written
IsWrittenAnswer table term shape (Err fault) = (fault ≡ Memory) ⊎ ((fault ≡ TooLarge) × (is_within_limits term ≡ false))

pub record AnswersWritten (term : NamedTerm) (shape : WrittenShape) (result : Result Written Fault) (earlier now : TermTable) : Type 0 where
  pub answered : IsWrittenAnswer now term shape result
  pub grows : IsGrown earlier now
