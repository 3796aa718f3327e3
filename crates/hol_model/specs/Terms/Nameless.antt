-- Terms without bound names: a bound variable is the number of binders between its place and its own binder
-- (de Bruijn's indices). Alpha-equivalent named terms have the same image.
use Rattle.std.specs.Prelude.{◌≡◌, ℕ, zero, suc, List, [], ◌∷◌, Bool, Option, Some, None, if◌then◌else◌, slice_get}
use Rattle.std.specs.Option.{option_map, option_map_or}
use Rattle.std.specs.Ordering.{nat_cmp, ordering_then, is_eq}
use Rattle.std.specs.Cmp.Lexicographic.{slice_cmp}
use Rattle.std.specs.declared.cmp.Ordering.{Ordering}
use Rattle.hol_model.specs.Terms.HolType.{HolType, bool_type, function_type, codomain_of, type_cmp}
use Rattle.hol_model.specs.Terms.NamedTerm.{NamedTerm, variable, constant, combination, abstraction, Binder, same_variable}

pub data Nameless : Type 0 where
  free : List ℕ → HolType → Nameless
  const : List ℕ → HolType → Nameless
  bound : ℕ → Nameless
  app : Nameless → Nameless → Nameless
  lam : HolType → Nameless → Nameless

-- the number of binders between a variable and its own, which is the nearest of the same name and type
abbrev pub binder_index : List Binder → List ℕ → HolType → Option ℕ
binder_index [] name ty = None
binder_index (binder ∷ outer) name ty =
    if same_variable binder.0 binder.1 name ty then Some 0 else option_map suc (binder_index outer name ty)

-- a variable under these binders, the innermost first
abbrev pub variable_image : List Binder → List ℕ → HolType → Nameless
variable_image binders name ty = option_map_or bound (binder_index binders name ty) (free name ty)

-- the image of a term that stands under these binders, the innermost first
abbrev pub image_under : List Binder → NamedTerm → Nameless
image_under binders (variable name ty) = variable_image binders name ty
image_under binders (constant name ty) = const name ty
image_under binders (combination function argument) = app (image_under binders function) (image_under binders argument)
image_under binders (abstraction name ty body) = lam ty (image_under ((name, ty) ∷ binders) body)

abbrev pub image : NamedTerm → Nameless
image term = image_under [] term

-- the place of a form of term in the order: constants, free variables, bound variables, combinations, abstractions
abbrev pub rank : Nameless → ℕ
rank (const name ty) = 0
rank (free name ty) = 1
rank (bound index) = 2
rank (app function argument) = 3
rank (lam ty body) = 4

-- by form; then the parts from left to right, names by their bytes
abbrev pub nameless_cmp : Nameless → Nameless → Ordering
nameless_cmp (const a s) (const b t) = ordering_then (slice_cmp nat_cmp a b) (type_cmp s t)
nameless_cmp (free a s) (free b t) = ordering_then (slice_cmp nat_cmp a b) (type_cmp s t)
nameless_cmp (bound i) (bound j) = nat_cmp i j
nameless_cmp (app f a) (app g b) = ordering_then (nameless_cmp f g) (nameless_cmp a b)
nameless_cmp (lam s p) (lam t q) = ordering_then (type_cmp s t) (nameless_cmp p q)
nameless_cmp s t = nat_cmp (rank s) (rank t)

-- two terms are the same
abbrev pub same_term : Nameless → Nameless → Bool
same_term s t = is_eq (nameless_cmp s t)

-- the term has the type, where the binders around it have these types
abbrev pub HasType : List HolType → Nameless → HolType → Type 0
HasType binders (free name ty) type = ty ≡ type
HasType binders (const name ty) type = ty ≡ type
HasType binders (bound index) type = slice_get binders index ≡ Some type
HasType binders (app function argument) type = (domain : HolType) × HasType binders function (function_type domain type) × HasType binders argument domain
HasType binders (lam ty body) type = (codomain : HolType) × HasType (ty ∷ binders) body codomain × (function_type ty codomain ≡ type)

-- the type of the binder, or `bool` where there is no such binder
abbrev pub binder_type : List HolType → ℕ → HolType
binder_type [] index = bool_type
binder_type (ty ∷ binders) zero = ty
binder_type (ty ∷ binders) (suc index) = binder_type binders index

-- the type that a well typed term has
abbrev pub nameless_type : List HolType → Nameless → HolType
nameless_type binders (free name ty) = ty
nameless_type binders (const name ty) = ty
nameless_type binders (bound index) = binder_type binders index
nameless_type binders (app function argument) = codomain_of (nameless_type binders function)
nameless_type binders (lam ty body) = function_type ty (nameless_type (ty ∷ binders) body)
