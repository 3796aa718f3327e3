-- What a walk over a pattern and a term side by side finds: pairs (new, old) for type variables and variables.
use Rattle.std.specs.Prelude.{ℕ, suc, List, [], ◌∷◌, ◌++◌, Bool, true, false, ◌&&◌, Option, Some, None, if◌then◌else◌, nat_lt, find, map}
use Rattle.std.specs.Str.{bytes_eq}
use Rattle.std.specs.Option.{option_and_then}
use Rattle.hol_model.specs.Terms.HolType.{HolType, type_variable, bool_type, function_type, declared_type, type_eq}
use Rattle.hol_model.specs.Terms.NamedTerm.{NamedTerm, variable, constant, combination, abstraction, Binder, same_variable, is_bound_by, type_of}
use Rattle.hol_model.specs.Terms.Nameless.{binder_index, image, same_term}
use Rattle.hol_model.specs.Terms.Substitution.{is_variable_named}
use Rattle.hol_model.specs.Rewrites.Matching.{is_fixed, is_fixed_type}

-- pairs for type variables, and for variables
abbrev pub Types : Type 0
Types = List (HolType × HolType)

abbrev pub Terms : Type 0
Terms = List (NamedTerm × NamedTerm)

abbrev pub Found : Type 0
Found = Types × Terms

-- the pairs for type variables with a type in the place of a type variable, where a pair for it is known
abbrev pub with_known_type : Types → List ℕ → HolType → Option (HolType × HolType) → Option Types
with_known_type types name ty None = Some (types ++ (ty, type_variable name) ∷ [])
with_known_type types name ty (Some pair) = if type_eq pair.0 ty then Some types else None

abbrev pub with_type : List NamedTerm → Types → List ℕ → HolType → Option Types
with_type fixed types name ty =
    if is_fixed_type fixed name then (if type_eq ty (type_variable name) then Some types else None)
    else with_known_type types name ty (find (λ pair. type_eq pair.1 (type_variable name)) types)

-- the pairs with which a generic type becomes a type, after those that are there
abbrev pub match_type : List NamedTerm → Types → HolType → HolType → Option Types
match_type fixed types (type_variable name) ty = with_type fixed types name ty
match_type fixed types bool_type bool_type = Some types
match_type fixed types (function_type a b) (function_type c d) =
    option_and_then (λ more. match_type fixed more b d) (match_type fixed types a c)
match_type fixed types (declared_type a) (declared_type b) = if bytes_eq a b then Some types else None
match_type fixed types _ _ = None

-- the binders around a part of the pattern and a part of the term, the innermost first
abbrev pub Sides : Type 0
Sides = List (Binder × Binder)

abbrev pub left_of : Sides → List Binder
left_of sides = map (λ side. side.0) sides

abbrev pub right_of : Sides → List Binder
right_of sides = map (λ side. side.1) sides

-- for a variable that is bound in the pattern, whether the term is the variable of the same binder's other side
abbrev pub bound_alike : Sides → List ℕ → HolType → NamedTerm → Option Bool
bound_alike [] name ty term = None
bound_alike (side ∷ outer) name ty term =
    if same_variable side.0.0 side.0.1 name ty then Some (is_variable_named side.1.0 side.1.1 term)
    else (if is_variable_named side.1.0 side.1.1 term
    then (if is_bound_by (left_of outer) name ty then Some false else None)
    else bound_alike outer name ty term)

-- no variable of a term is bound by one of the binders but the `inner` first
abbrev pub is_inside : ℕ → Option ℕ → Bool
is_inside inner None = true
is_inside inner (Some index) = nat_lt index inner

abbrev pub stays_inside : ℕ → List Binder → NamedTerm → Bool
stays_inside inner binders (variable name ty) = is_inside inner (binder_index binders name ty)
stays_inside inner binders (constant name ty) = true
stays_inside inner binders (combination function argument) = stays_inside inner binders function && stays_inside inner binders argument
stays_inside inner binders (abstraction name ty body) = stays_inside (suc inner) ((name, ty) ∷ binders) body

-- the pairs for variables with a term in the place of a variable, where a pair for it is known
abbrev pub with_known_term : Terms → List ℕ → HolType → NamedTerm → Option (NamedTerm × NamedTerm) → Option Terms
with_known_term terms name ty term None = Some (terms ++ (term, variable name ty) ∷ [])
with_known_term terms name ty term (Some pair) = if same_term (image pair.0) (image term) then Some terms else None

abbrev pub with_term : List NamedTerm → Terms → List ℕ → HolType → NamedTerm → Option Terms
with_term fixed terms name ty term =
    if is_fixed fixed name ty then (if is_variable_named name ty term then Some terms else None)
    else with_known_term terms name ty term (find (λ pair. is_variable_named name ty pair.1) terms)

-- a term in the place of a variable that is free in the pattern: its type is matched first
abbrev pub match_free : List NamedTerm → List Binder → Found → List ℕ → HolType → NamedTerm → Option HolType → Option Found
match_free fixed binders found name ty term None = None
match_free fixed binders found name ty term (Some s) =
    if stays_inside 0 binders term
    then option_and_then (λ types. option_and_then (λ terms. Some (types, terms)) (with_term fixed found.1 name s term)) (match_type fixed found.0 ty s)
    else None

abbrev pub match_variable : List NamedTerm → Sides → Found → List ℕ → HolType → NamedTerm → Option Bool → Option Found
match_variable fixed sides found name ty term None = match_free fixed (right_of sides) found name ty term (type_of term)
match_variable fixed sides found name ty term (Some alike) = if alike then Some found else None

-- the pairs with which a part of the pattern becomes a part of the term, after those that are there
abbrev pub match_part : List NamedTerm → Sides → Found → NamedTerm → NamedTerm → Option Found
match_part fixed sides found (variable name ty) term = match_variable fixed sides found name ty term (bound_alike sides name ty term)
match_part fixed sides found (constant name ty) (constant other s) =
    if bytes_eq name other then option_and_then (λ types. Some (types, found.1)) (match_type fixed found.0 ty s) else None
match_part fixed sides found (combination f x) (combination g y) =
    option_and_then (λ more. match_part fixed sides more x y) (match_part fixed sides found f g)
match_part fixed sides found (abstraction name ty body) (abstraction other s other_body) =
    option_and_then (λ types. match_part fixed (((name, ty), (other, s)) ∷ sides) (types, found.1) body other_body) (match_type fixed found.0 ty s)
match_part fixed sides found _ _ = None
