-- The types of the logic (HOL Light's `fusion.ml`, with `fun` as the one type operator that takes arguments).
use Rattle.std.specs.Prelude.{◌≡◌, ◌⊎◌, ℕ, ◌+◌, List, [], ◌∷◌, ◌++◌, Bool, true, false, ◌&&◌, Option, Some, None, if◌then◌else◌, find}
use Rattle.std.specs.Str.{bytes_eq}
use Rattle.std.specs.List.{list_any, list_all}
use Rattle.std.specs.Option.{option_map_or}
use Rattle.std.specs.Ordering.{nat_cmp, ordering_then}
use Rattle.std.specs.Cmp.Lexicographic.{slice_cmp}
use Rattle.std.specs.declared.cmp.Ordering.{Ordering}
use Rattle.std.specs.declared.cmp.Ordering.TheVariants.{Less, Equal, Greater}

pub data HolType : Type 0 where
  type_variable : List ℕ → HolType
  bool_type : HolType
  function_type : HolType → HolType → HolType
  declared_type : List ℕ → HolType

-- how many type variables, `bool`s, declared names and arrows a type is written with
abbrev pub type_nodes : HolType → ℕ
type_nodes (type_variable name) = 1
type_nodes bool_type = 1
type_nodes (function_type domain codomain) = type_nodes domain + type_nodes codomain + 1
type_nodes (declared_type name) = 1

-- variable, `bool`, function, declared; then the parts from left to right, names by their bytes
abbrev pub type_cmp : HolType → HolType → Ordering
type_cmp (type_variable a) (type_variable b) = slice_cmp nat_cmp a b
type_cmp (type_variable a) bool_type = Less
type_cmp (type_variable a) (function_type c d) = Less
type_cmp (type_variable a) (declared_type b) = Less
type_cmp bool_type (type_variable b) = Greater
type_cmp bool_type bool_type = Equal
type_cmp bool_type (function_type c d) = Less
type_cmp bool_type (declared_type b) = Less
type_cmp (function_type a b) (type_variable c) = Greater
type_cmp (function_type a b) bool_type = Greater
type_cmp (function_type a b) (function_type c d) = ordering_then (type_cmp a c) (type_cmp b d)
type_cmp (function_type a b) (declared_type c) = Less
type_cmp (declared_type a) (type_variable b) = Greater
type_cmp (declared_type a) bool_type = Greater
type_cmp (declared_type a) (function_type c d) = Greater
type_cmp (declared_type a) (declared_type b) = slice_cmp nat_cmp a b

abbrev pub type_eq : HolType → HolType → Bool
type_eq (type_variable a) (type_variable b) = bytes_eq a b
type_eq bool_type bool_type = true
type_eq (function_type a b) (function_type c d) = type_eq a c && type_eq b d
type_eq (declared_type a) (declared_type b) = bytes_eq a b
type_eq _ _ = false

-- the domain and the codomain of a function type
abbrev pub dest_function_type : HolType → Option (HolType × HolType)
dest_function_type (function_type domain codomain) = Some (domain, codomain)
dest_function_type _ = None

abbrev pub is_type_variable : HolType → Bool
is_type_variable (type_variable name) = true
is_type_variable _ = false

-- every type variable, once for each place where it stands, from left to right
abbrev pub type_variable_places : HolType → List HolType
type_variable_places (type_variable name) = type_variable name ∷ []
type_variable_places bool_type = []
type_variable_places (function_type domain codomain) = type_variable_places domain ++ type_variable_places codomain
type_variable_places (declared_type name) = []

-- a list with each member of a second list that is not yet in it put at its end
abbrev pub with_new_types : List HolType → List HolType → List HolType
with_new_types seen [] = seen
with_new_types seen (ty ∷ rest) = with_new_types (if list_any (type_eq ty) seen then seen else (seen ++ ty ∷ [])) rest

-- the type variables of a type, in order of first occurrence
abbrev pub type_variables : HolType → List HolType
type_variables ty = with_new_types [] (type_variable_places ty)

-- the types that stand for type variables
abbrev pub TypeInstance : Type 0
TypeInstance = List ℕ → HolType

-- each type variable replaced, all at once
abbrev pub instantiate_type : TypeInstance → HolType → HolType
instantiate_type tau (type_variable name) = tau name
instantiate_type tau bool_type = bool_type
instantiate_type tau (function_type domain codomain) = function_type (instantiate_type tau domain) (instantiate_type tau codomain)
instantiate_type tau (declared_type name) = declared_type name

-- what a list of replacements (new, old) puts for a type variable: the first pair for it counts
abbrev pub type_replacement : List (HolType × HolType) → HolType → HolType
type_replacement theta variable = option_map_or (λ pair. pair.0) (find (λ pair. type_eq pair.1 variable) theta) variable

-- every old part is a type variable
abbrev pub replaces_type_variables : List (HolType × HolType) → Bool
replaces_type_variables theta = list_all (λ pair. is_type_variable pair.1) theta

-- what a list of replacements puts for type variables
abbrev pub type_instance_of : List (HolType × HolType) → TypeInstance
type_instance_of theta name = type_replacement theta (type_variable name)

-- a type with its type variables replaced, all at once, by a list of replacements
abbrev pub type_put : List (HolType × HolType) → HolType → HolType
type_put theta ty = instantiate_type (type_instance_of theta) ty

-- the type variable stands in the type
abbrev pub OccursInType : List ℕ → HolType → Type 0
OccursInType name (type_variable other) = name ≡ other
OccursInType name bool_type = ⊥
OccursInType name (function_type domain codomain) = OccursInType name domain ⊎ OccursInType name codomain
OccursInType name (declared_type other) = ⊥

-- the type of arguments of a function type
abbrev pub domain_of : HolType → HolType
domain_of (function_type domain codomain) = domain
domain_of _ = bool_type

-- the type of answers of a function type
abbrev pub codomain_of : HolType → HolType
codomain_of (function_type domain codomain) = codomain
codomain_of _ = bool_type

-- the first of two answers
abbrev pub first_answer : Option HolType → Option HolType → Option HolType
first_answer (Some ty) other = Some ty
first_answer None other = other

-- what stands in the instance of a generic type where the type variable first stands in the generic type
abbrev pub part_at : HolType → HolType → List ℕ → Option HolType
part_at (type_variable other) ty name = if bytes_eq other name then Some ty else None
part_at (function_type a b) (function_type c d) name = first_answer (part_at a c name) (part_at b d name)
part_at _ _ name = None

-- the parts of a type stand where those of a generic type do, and for a type variable what first stands for it in the whole
abbrev pub fits_generic : HolType → HolType → HolType → HolType → Bool
fits_generic whole_generic whole (type_variable name) ty = option_map_or (λ part. type_eq part ty) (part_at whole_generic whole name) false
fits_generic whole_generic whole bool_type bool_type = true
fits_generic whole_generic whole (function_type a b) (function_type c d) = fits_generic whole_generic whole a c && fits_generic whole_generic whole b d
fits_generic whole_generic whole (declared_type a) (declared_type b) = bytes_eq a b
fits_generic whole_generic whole _ _ = false

-- the type is got from the generic one by replacing type variables
abbrev pub is_instance : HolType → HolType → Bool
is_instance generic ty = fits_generic generic ty generic ty

-- a type is got from another by replacing type variables
pub record IsInstance (generic ty : HolType) : Type 0 where
  pub instance : TypeInstance
  pub is_instance : ty ≡ instantiate_type instance generic
