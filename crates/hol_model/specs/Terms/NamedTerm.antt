-- The terms of the logic, with names at their binders (HOL Light's `fusion.ml`).
use Rattle.std.specs.Prelude.{ℕ, ◌+◌, max, List, [], ◌∷◌, ◌++◌, Bool, true, false, ◌&&◌, ◌||◌, not, Option, Some, None, if◌then◌else◌, nat_le, codes}
use Rattle.std.specs.Str.{bytes_eq}
use Rattle.std.specs.List.{list_any}
use Rattle.std.specs.Option.{option_map}
use Rattle.hol_model.specs.declared.limits.TheConstants.{TYPE_NODES_LIMIT, TERM_NODES_LIMIT, TERM_HEIGHT_LIMIT}
use Rattle.hol_model.specs.Terms.HolType.{HolType, bool_type, function_type, type_eq, type_nodes, type_variable_places, with_new_types}

pub data NamedTerm : Type 0 where
  variable : List ℕ → HolType → NamedTerm
  constant : List ℕ → HolType → NamedTerm
  combination : NamedTerm → NamedTerm → NamedTerm
  abstraction : List ℕ → HolType → NamedTerm → NamedTerm

abbrev pub height : NamedTerm → ℕ
height (variable name ty) = 1
height (constant name ty) = 1
height (combination function argument) = max (height function) (height argument) + 1
height (abstraction name ty body) = height body + 1

abbrev pub nodes : NamedTerm → ℕ
nodes (variable name ty) = 1
nodes (constant name ty) = 1
nodes (combination function argument) = nodes function + nodes argument + 1
nodes (abstraction name ty body) = nodes body + 1

-- the type of a function's answer, where the function takes arguments of the second type
abbrev pub answer_type : HolType → HolType → Option HolType
answer_type (function_type domain codomain) argument = if type_eq domain argument then Some codomain else None
answer_type _ argument = None

abbrev pub application_type : Option HolType → Option HolType → Option HolType
application_type (Some function) (Some argument) = answer_type function argument
application_type (Some function) None = None
application_type None argument = None

-- the type of a term, `None` where some function in it is given an argument of another type than it takes
abbrev pub type_of : NamedTerm → Option HolType
type_of (variable name ty) = Some ty
type_of (constant name ty) = Some ty
type_of (combination function argument) = application_type (type_of function) (type_of argument)
type_of (abstraction name ty body) = option_map (function_type ty) (type_of body)

-- a type that a term may be written with
abbrev pub type_fits : HolType → Bool
type_fits ty = nat_le (type_nodes ty) TYPE_NODES_LIMIT

abbrev pub some_type_fits : Option HolType → Bool
some_type_fits None = true
some_type_fits (Some ty) = type_fits ty

-- each type written in the term, and the type of each part of it, is within the limit
abbrev pub types_fit : NamedTerm → Bool
types_fit (variable name ty) = type_fits ty
types_fit (constant name ty) = type_fits ty
types_fit (combination function argument) = types_fit function && types_fit argument
types_fit (abstraction name ty body) = types_fit body && some_type_fits (type_of (abstraction name ty body))

-- height, nodes and types are within the limits
abbrev pub is_within_limits : NamedTerm → Bool
is_within_limits term = nat_le (height term) TERM_HEIGHT_LIMIT && nat_le (nodes term) TERM_NODES_LIMIT && types_fit term

abbrev pub is_variable : NamedTerm → Bool
is_variable (variable name ty) = true
is_variable _ = false

-- two variables are the same exactly where name and type agree
abbrev pub same_variable : List ℕ → HolType → List ℕ → HolType → Bool
same_variable a s b t = bytes_eq a b && type_eq s t

-- the variable of this name and type is free in a term
abbrev pub is_free : List ℕ → HolType → NamedTerm → Bool
is_free name ty (variable other s) = same_variable name ty other s
is_free name ty (constant other s) = false
is_free name ty (combination function argument) = is_free name ty function || is_free name ty argument
is_free name ty (abstraction other s body) = not (same_variable name ty other s) && is_free name ty body

-- a term is free in another: no term but a variable is
abbrev pub free_in : NamedTerm → NamedTerm → Bool
free_in (variable name ty) term = is_free name ty term
free_in _ term = false

-- `=` for terms of this type
abbrev pub equality : Option HolType → NamedTerm
equality (Some ty) = constant (codes "=") (function_type ty (function_type ty bool_type))
equality None = constant (codes "=") bool_type

-- `a = b`
abbrev pub equation : NamedTerm → NamedTerm → NamedTerm
equation a b = combination (combination (equality (type_of a)) a) b

-- the type variables of every type written in a term, once for each place, from left to right
abbrev pub type_places : NamedTerm → List HolType
type_places (variable name ty) = type_variable_places ty
type_places (constant name ty) = type_variable_places ty
type_places (combination function argument) = type_places function ++ type_places argument
type_places (abstraction name ty body) = type_variable_places ty ++ type_places body

-- the type variables of a term, in order of first occurrence
abbrev pub term_type_variables : NamedTerm → List HolType
term_type_variables term = with_new_types [] (type_places term)

-- a binder: the name and the type of the variable that it binds
abbrev pub Binder : Type 0
Binder = List ℕ × HolType

-- a variable is bound by one of these binders
abbrev pub is_bound_by : List Binder → List ℕ → HolType → Bool
is_bound_by binders name ty = list_any (λ binder. same_variable binder.0 binder.1 name ty) binders

-- the free variables of a term that stands under these binders, once for each place, from left to right
abbrev pub free_places : List Binder → NamedTerm → List NamedTerm
free_places binders (variable name ty) = if is_bound_by binders name ty then [] else (variable name ty ∷ [])
free_places binders (constant name ty) = []
free_places binders (combination function argument) = free_places binders function ++ free_places binders argument
free_places binders (abstraction name ty body) = free_places ((name, ty) ∷ binders) body

-- two terms are the same variable
abbrev pub are_same_variable : NamedTerm → NamedTerm → Bool
are_same_variable (variable a s) (variable b t) = same_variable a s b t
are_same_variable _ _ = false

-- a list with each variable of a second list that is not yet in it put at its end
abbrev pub with_new_variables : List NamedTerm → List NamedTerm → List NamedTerm
with_new_variables seen [] = seen
with_new_variables seen (term ∷ rest) =
    with_new_variables (if list_any (are_same_variable term) seen then seen else (seen ++ term ∷ [])) rest

-- the free variables of a term, in order of first occurrence
abbrev pub free_variables : NamedTerm → List NamedTerm
free_variables term = with_new_variables [] (free_places [] term)

-- the name and the type of a variable
abbrev pub dest_variable : NamedTerm → Option (List ℕ × HolType)
dest_variable (variable name ty) = Some (name, ty)
dest_variable _ = None

-- the name and the type of a constant
abbrev pub dest_constant : NamedTerm → Option (List ℕ × HolType)
dest_constant (constant name ty) = Some (name, ty)
dest_constant _ = None

-- the function and the argument of a combination
abbrev pub dest_combination : NamedTerm → Option (NamedTerm × NamedTerm)
dest_combination (combination function argument) = Some (function, argument)
dest_combination _ = None

-- the variable and the body of an abstraction
abbrev pub dest_abstraction : NamedTerm → Option (NamedTerm × NamedTerm)
dest_abstraction (abstraction name ty body) = Some (variable name ty, body)
dest_abstraction _ = None

-- the abstraction over a variable
abbrev pub abstract : NamedTerm → NamedTerm → Option NamedTerm
abstract (variable name ty) body = Some (abstraction name ty body)
abstract _ body = None
