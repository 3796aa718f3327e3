-- Terms whose types stay.
use Rattle.std.proofs.Common.{◌≡◌, ℕ, List, [], ◌∷◌, true, false, Some, None, refl, sym, ap}
use Rattle.std.specs.Prelude.{Option}
use Rattle.std.specs.Option.{option_map, option_map_or}
use Rattle.hol_model.specs.Terms.HolType.{HolType, function_type, type_eq, type_put, type_instance_of}
use Rattle.hol_model.specs.Terms.NamedTerm.{NamedTerm, variable, constant, combination, abstraction, Binder, type_of}
use Rattle.hol_model.specs.Terms.Nameless.{free, const, bound, app, lam, image, image_under, binder_index}
use Rattle.hol_model.specs.Terms.Substitution.{instantiate}
use Rattle.hol_model.proofs.Terms.HolTypeEq.{same_from_type_eq, type_eq-self}
use Rattle.hol_model.proofs.Tests.{first_of_both, second_of_both, first_of_neither, second_of_neither, both}
use Rattle.hol_model.proofs.Terms.Images.{application-typed}
use Rattle.hol_types.specs.Variables as types_spec
use Rattle.hol_types.proofs.Closed.{unchanged}
use Rattle.hol_terms.specs.TypeVariables.{has_type_variables}
use Rattle.hol_subst.specs.Touched.{keeps_all_types}

type_stays : (types : List (HolType × HolType)) (ty : HolType) → types_spec.has_type_variables ty ≡ false → type_eq ty (type_put types ty) ≡ true
type_stays types ty none = rw (unchanged types ty none) (type_eq-self ty)

-- types without type variables stay
closed_stays : (types : List (HolType × HolType)) (term : NamedTerm) → has_type_variables term ≡ false → keeps_all_types types term ≡ true
closed_stays types (variable name ty) none = type_stays types ty none
closed_stays types (constant name ty) none = type_stays types ty none
closed_stays types (combination f x) none =
    both (keeps_all_types types f) (keeps_all_types types x)
    (closed_stays types f (first_of_neither (has_type_variables f) (has_type_variables x) none))
    (closed_stays types x (second_of_neither (has_type_variables f) (has_type_variables x) none))
closed_stays types (abstraction name ty body) none =
    both (type_eq ty (type_put types ty)) (keeps_all_types types body)
    (type_stays types ty (first_of_neither (types_spec.has_type_variables ty) (has_type_variables body) none))
    (closed_stays types body (second_of_neither (types_spec.has_type_variables ty) (has_type_variables body) none))

pub keeps-closed : (types : List (HolType × HolType)) (term : NamedTerm) → has_type_variables term ≡ false → true ≡ keeps_all_types types term
keeps-closed types term none = sym (closed_stays types term none)

-- what the test for one type says
type_kept : (types : List (HolType × HolType)) (ty : HolType) → type_eq ty (type_put types ty) ≡ true → type_put types ty ≡ ty
type_kept types ty passed = sym (same_from_type_eq ty (type_put types ty) passed)

-- a term whose types stay is its own instance
stays-under : (types : List (HolType × HolType)) (term : NamedTerm) (binders : List Binder) → keeps_all_types types term ≡ true
    → instantiate (type_instance_of types) (image_under binders term) ≡ image_under binders term
stays-under types (variable name ty) binders kept = go (binder_index binders name ty)
  where
    go : (index : Option ℕ) → instantiate (type_instance_of types) (option_map_or bound index (free name ty)) ≡ option_map_or bound index (free name ty)
    go None = ap (free name) (type_kept types ty kept)
    go (Some index) = refl
stays-under types (constant name ty) binders kept = ap (const name) (type_kept types ty kept)
stays-under types (combination f x) binders kept =
    λ i. app (stays-under types f binders (first_of_both (keeps_all_types types f) (keeps_all_types types x) kept) i)
    (stays-under types x binders (second_of_both (keeps_all_types types f) (keeps_all_types types x) kept) i)
stays-under types (abstraction name ty body) binders kept =
    λ i. lam (type_kept types ty (first_of_both (type_eq ty (type_put types ty)) (keeps_all_types types body) kept) i)
    (stays-under types body ((name, ty) ∷ binders) (second_of_both (type_eq ty (type_put types ty)) (keeps_all_types types body) kept) i)

pub instance-staying : (types : List (HolType × HolType)) (term : NamedTerm) → keeps_all_types types term ≡ true
    → image term ≡ instantiate (type_instance_of types) (image term)
instance-staying types term kept = sym (stays-under types term [] kept)

abbrev codomain : HolType → HolType → HolType
codomain (function_type a b) default = b
codomain _ default = default

-- its type stays
type_of-staying : (types : List (HolType × HolType)) (term : NamedTerm) (ty : HolType) → type_of term ≡ Some ty → keeps_all_types types term ≡ true
    → type_put types ty ≡ ty
type_of-staying types (variable name s) ty typed kept = let same : s ≡ ty = cc in rw (← same) (type_kept types s kept)
type_of-staying types (constant name s) ty typed kept = let same : s ≡ ty = cc in rw (← same) (type_kept types s kept)
type_of-staying types (combination f x) ty typed kept =
    let parts = application-typed (type_of f) (type_of x) ty typed in
    let whole : function_type (type_put types parts.0) (type_put types ty) ≡ function_type parts.0 ty =
    type_of-staying types f (function_type parts.0 ty) parts.1 (first_of_both (keeps_all_types types f) (keeps_all_types types x) kept) in
    ap (λ t. codomain t ty) whole
type_of-staying types (abstraction name s body) ty typed kept =
    go (type_of body) refl typed (λ c is. type_of-staying types body c is (second_of_both (type_eq s (type_put types s)) (keeps_all_types types body) kept))
  where
    go : (found : Option HolType) → type_of body ≡ found → option_map (function_type s) found ≡ Some ty
        → ((c : HolType) → type_of body ≡ Some c → type_put types c ≡ c) → type_put types ty ≡ ty
    go None e h deeper = cc
    go (Some c) e h deeper =
        let same : function_type s c ≡ ty = cc in
        rw (← same)
        (λ i. function_type (type_kept types s (first_of_both (type_eq s (type_put types s)) (keeps_all_types types body) kept) i) (deeper c e i))

pub typed-staying : (types : List (HolType × HolType)) (term : NamedTerm) → keeps_all_types types term ≡ true
    → type_of term ≡ option_map (type_put types) (type_of term)
typed-staying types term kept = go (type_of term) refl
  where
    go : (found : Option HolType) → type_of term ≡ found → found ≡ option_map (type_put types) found
    go None is = refl
    go (Some ty) is = ap Some (sym (type_of-staying types term ty is kept))

pub ruleset closed = (keeps-closed)

pub ruleset staying = (instance-staying, typed-staying)
