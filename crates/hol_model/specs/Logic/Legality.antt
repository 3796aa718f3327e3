-- Tests for what may be added to a theory.
use Rattle.std.specs.Prelude.{ℕ, List, [], ◌∷◌, Bool, true, false, ◌&&◌, ◌||◌, not, unwrap_or}
use Rattle.std.specs.Option.{is_some}
use Rattle.std.specs.Str.{bytes_eq}
use Rattle.hol_model.specs.Terms.HolType.{HolType, type_variable, bool_type, function_type, declared_type}
use Rattle.hol_model.specs.Terms.NamedTerm.{NamedTerm, variable, constant, combination, abstraction, Binder, is_bound_by, type_of}
use Rattle.hol_model.specs.Logic.Theory.{Theory, generic_type}
use Rattle.hol_model.specs.Logic.KnownTerm.{is_declared}

-- each variable of a term is bound by one of these binders or in the term
abbrev pub is_closed_under : List Binder → NamedTerm → Bool
is_closed_under binders (variable name ty) = is_bound_by binders name ty
is_closed_under binders (constant name ty) = true
is_closed_under binders (combination function argument) = is_closed_under binders function && is_closed_under binders argument
is_closed_under binders (abstraction name ty body) = is_closed_under ((name, ty) ∷ binders) body

-- no variable is free in the term
abbrev pub is_closed : NamedTerm → Bool
is_closed term = is_closed_under [] term

-- the type variable stands in the type
abbrev pub occurs_in_type : List ℕ → HolType → Bool
occurs_in_type name (type_variable other) = bytes_eq name other
occurs_in_type name bool_type = false
occurs_in_type name (function_type domain codomain) = occurs_in_type name domain || occurs_in_type name codomain
occurs_in_type name (declared_type other) = false

-- each type variable of the second type stands in the first
abbrev pub reflects_type : HolType → HolType → Bool
reflects_type whole (type_variable name) = occurs_in_type name whole
reflects_type whole bool_type = true
reflects_type whole (function_type domain codomain) = reflects_type whole domain && reflects_type whole codomain
reflects_type whole (declared_type name) = true

-- each type variable of the types in the term stands in the type
abbrev pub reflects : HolType → NamedTerm → Bool
reflects whole (variable name ty) = reflects_type whole ty
reflects whole (constant name ty) = reflects_type whole ty
reflects whole (combination function argument) = reflects whole function && reflects whole argument
reflects whole (abstraction name ty body) = reflects_type whole ty && reflects whole body

-- no type variable stands in the type
abbrev pub is_fixed : HolType → Bool
is_fixed (type_variable name) = false
is_fixed bool_type = true
is_fixed (function_type domain codomain) = is_fixed domain && is_fixed codomain
is_fixed (declared_type name) = true

-- the name stands for no constant and no declared type yet
abbrev pub is_new_name : Theory → List ℕ → Bool
is_new_name theory name = not (is_some (generic_type theory name)) && not (is_declared theory name)

-- the type of a term, `bool` for a term without a type, which the program does not make
abbrev pub own_type : NamedTerm → HolType
own_type term = unwrap_or (type_of term) bool_type
