-- Theories: definitions and declarations, and the terms that are known over them.
use Rattle.std.specs.Prelude.{◌≡◌, ◌⊎◌, ℕ, List, [], ◌∷◌, ◌++◌, true, Option, Some, None, if◌then◌else◌, codes}
use Rattle.std.specs.Str.{bytes_eq}
use Rattle.hol_model.specs.Terms.Name.{is_constant_name, is_declared_type_name}
use Rattle.hol_model.specs.Terms.HolType.{HolType, type_variable, bool_type, function_type, declared_type, IsInstance, OccursInType}
use Rattle.hol_model.specs.Terms.Nameless.{Nameless, free, const, bound, app, lam, HasType}
use Rattle.hol_model.specs.Terms.Substitution.{HasNoFree, OccursInTerm}

-- a definition (HOL Light's `new_basic_definition`), or a declared type or constant
pub data Entry : Type 0 where
  definition : List ℕ → HolType → Nameless → Entry
  declaration_of_type : List ℕ → Entry
  declaration_of_constant : List ℕ → HolType → Entry

-- the entries, the newest first
abbrev pub Theory : Type 0
Theory = List Entry

-- the first theory is the second, or an earlier state of it
pub record IsEarlier (earlier now : Theory) : Type 0 where
  pub added : Theory
  pub is_added : now ≡ added ++ earlier

abbrev pub equality_name : List ℕ
equality_name = codes "="

abbrev pub choice_name : List ℕ
choice_name = codes "@"

abbrev pub type_a : HolType
type_a = type_variable (codes "A")

abbrev pub type_b : HolType
type_b = type_variable (codes "B")

-- the type of equality at a type
abbrev pub equality_type : HolType → HolType
equality_type ty = function_type ty (function_type ty bool_type)

-- the type of choice at a type
abbrev pub choice_type : HolType → HolType
choice_type ty = function_type (function_type ty bool_type) ty

-- the generic type of a constant, `=` and `@` among them
abbrev pub generic_type : Theory → List ℕ → Option HolType
generic_type [] name = if bytes_eq equality_name name then Some (equality_type type_a) else (if bytes_eq choice_name name then Some (choice_type type_a) else None)
generic_type (definition other ty body ∷ rest) name = if bytes_eq other name then Some ty else generic_type rest name
generic_type (declaration_of_type other ∷ rest) name = generic_type rest name
generic_type (declaration_of_constant other ty ∷ rest) name = if bytes_eq other name then Some ty else generic_type rest name

-- the type was declared
abbrev pub IsDeclaredType : Theory → List ℕ → Type 0
IsDeclaredType [] name = ⊥
IsDeclaredType (definition other ty body ∷ rest) name = IsDeclaredType rest name
IsDeclaredType (declaration_of_type other ∷ rest) name = (name ≡ other) ⊎ IsDeclaredType rest name
IsDeclaredType (declaration_of_constant other ty ∷ rest) name = IsDeclaredType rest name

-- each declared type in it was declared
abbrev pub IsKnownType : Theory → HolType → Type 0
IsKnownType theory (type_variable name) = Unit {0}
IsKnownType theory bool_type = Unit {0}
IsKnownType theory (function_type domain codomain) = IsKnownType theory domain × IsKnownType theory codomain
IsKnownType theory (declared_type name) = IsDeclaredType theory name

-- the constant is there, at an instance of its generic type
pub record IsKnownConstant (theory : Theory) (name : List ℕ) (ty : HolType) : Type 0 where
  pub generic : HolType
  pub is_generic : generic_type theory name ≡ Some generic
  pub is_instance : IsInstance generic ty

-- each constant in it is there, at an instance of its generic type, and each declared type was declared
abbrev pub HasKnownParts : Theory → Nameless → Type 0
HasKnownParts theory (free name ty) = IsKnownType theory ty
HasKnownParts theory (const name ty) = IsKnownType theory ty × IsKnownConstant theory name ty
HasKnownParts theory (bound index) = Unit {0}
HasKnownParts theory (app function argument) = HasKnownParts theory function × HasKnownParts theory argument
HasKnownParts theory (lam ty body) = IsKnownType theory ty × HasKnownParts theory body

-- a term that has the type, with known constants and types
pub record IsKnown (theory : Theory) (term : Nameless) (ty : HolType) : Type 0 where
  pub typed : HasType [] term ty
  pub parts : HasKnownParts theory term

-- the name stands for no constant and no declared type yet
pub record IsNewName (theory : Theory) (name : List ℕ) : Type 0 where
  pub no_constant : generic_type theory name ≡ None
  pub no_type : ¬ (IsDeclaredType theory name)

-- what a definition is accepted for
pub record IsLegalDefinition (theory : Theory) (name : List ℕ) (ty : HolType) (body : Nameless) : Type 0 where
  pub is_name : is_constant_name name ≡ true
  pub is_new : IsNewName theory name
  pub known : IsKnown theory body ty
  pub closed : HasNoFree body
  pub reflected : (variable : List ℕ) → OccursInTerm variable body → OccursInType variable ty

-- what a declaration of a constant is accepted for
pub record IsLegalConstant (theory : Theory) (name : List ℕ) (ty : HolType) : Type 0 where
  pub is_name : is_constant_name name ≡ true
  pub is_new : IsNewName theory name
  pub known : IsKnownType theory ty
  pub fixed : (variable : List ℕ) → ¬ (OccursInType variable ty)

-- what a declaration of a type is accepted for
pub record IsLegalType (theory : Theory) (name : List ℕ) : Type 0 where
  pub is_name : is_declared_type_name name ≡ true
  pub is_new : IsNewName theory name

-- each entry is legal over the earlier ones
abbrev pub IsLegal : Theory → Type 0
IsLegal [] = Unit {0}
IsLegal (definition name ty body ∷ rest) = IsLegalDefinition rest name ty body × IsLegal rest
IsLegal (declaration_of_type name ∷ rest) = IsLegalType rest name × IsLegal rest
IsLegal (declaration_of_constant name ty ∷ rest) = IsLegalConstant rest name ty × IsLegal rest
