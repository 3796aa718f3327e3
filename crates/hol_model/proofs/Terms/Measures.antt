-- A term with names and its image are within the limits together, and a term is so where an abstraction of it is.
use Rattle.std.proofs.Common.{◌≡◌, ℕ, suc, ◌+◌, ◌≤◌, ◌<◌, max, List, [], ◌∷◌, ◌++◌, length, Bool, true, false, ◌&&◌, refl, sym, ◌∙◌, ap, arith, Option, Some, None, if◌then◌else◌, nat_le}
use Rattle.std.specs.Option.{option_map, option_map_or}
use Rattle.hol_model.specs.declared.limits.TheConstants.{TYPE_NODES_LIMIT, TERM_NODES_LIMIT, TERM_HEIGHT_LIMIT}
use Rattle.hol_model.specs.Terms.HolType.{HolType, function_type, type_nodes}
use Rattle.hol_model.specs.Terms.NamedTerm.{NamedTerm, variable, constant, combination, abstraction, Binder, same_variable, type_of, height, nodes, type_fits, some_type_fits, types_fit}
use Rattle.hol_model.specs.Terms.NamedTerm.{is_within_limits}
use Rattle.hol_model.specs.Terms.Nameless.{Nameless, free, const, bound, app, lam, HasType, image, image_under, variable_image, binder_index, nameless_type}
use Rattle.hol_model.specs.Terms.Substitution.{close_at, close}
use Rattle.hol_model.specs.Terms.Measures.{nameless_height, nameless_nodes, nameless_types_fit, nameless_within_limits}
use Rattle.hol_model.proofs.Tests.{first_of_both, second_of_both, both, same_variable-type}
use Rattle.hol_model.proofs.Terms.Typing.{nameless_type-is, close_at-typed}
use Rattle.hol_model.proofs.Terms.Images.{binder_types, application-typed, image_under-typed}

-- tests of the image of a variable, whether it is bound or not
height-variable : (found : Option ℕ) (name : List ℕ) (ty : HolType) → nameless_height (option_map_or bound found (free name ty)) ≡ 1
height-variable None name ty = refl
height-variable (Some index) name ty = refl

nodes-variable : (found : Option ℕ) (name : List ℕ) (ty : HolType) → nameless_nodes (option_map_or bound found (free name ty)) ≡ 1
nodes-variable None name ty = refl
nodes-variable (Some index) name ty = refl

pub height-image : (binders : List Binder) (term : NamedTerm) → nameless_height (image_under binders term) ≡ height term
height-image binders (variable name ty) = height-variable (binder_index binders name ty) name ty
height-image binders (constant name ty) = refl
height-image binders (combination f x) = rw (height-image binders f, height-image binders x) refl
height-image binders (abstraction name ty body) = rw (height-image ((name, ty) ∷ binders) body) refl

pub nodes-image : (binders : List Binder) (term : NamedTerm) → nameless_nodes (image_under binders term) ≡ nodes term
nodes-image binders (variable name ty) = nodes-variable (binder_index binders name ty) name ty
nodes-image binders (constant name ty) = refl
nodes-image binders (combination f x) = rw (nodes-image binders f, nodes-image binders x) refl
nodes-image binders (abstraction name ty body) = rw (nodes-image ((name, ty) ∷ binders) body) refl

-- the types of all binders are within the limit
abbrev BindersFit : List Binder → Type 0
BindersFit [] = Unit {0}
BindersFit (binder ∷ binders) = (type_fits binder.1 ≡ true) × BindersFit binders

variable-fits : (binders : List Binder) (name : List ℕ) (ty : HolType) → BindersFit binders
    → nameless_types_fit (binder_types binders) (variable_image binders name ty) ≡ true → type_fits ty ≡ true
variable-fits [] name ty all fits = fits
variable-fits (binder ∷ binders) name ty all fits =
    go (same_variable binder.0 binder.1 name ty) refl (binder_index binders name ty) (variable-fits binders name ty all.1) fits
  where
    go : (test : Bool) → same_variable binder.0 binder.1 name ty ≡ test → (found : Option ℕ)
        → (nameless_types_fit (binder_types binders) (option_map_or bound found (free name ty)) ≡ true → type_fits ty ≡ true)
        → nameless_types_fit (binder_types (binder ∷ binders)) (option_map_or bound (if test then Some 0 else option_map suc found) (free name ty)) ≡ true
        → type_fits ty ≡ true
    go true passed found deeper fits = ap type_fits (sym (same_variable-type binder.0 name binder.1 ty passed)) ∙ all.0
    go false passed None deeper fits = fits
    go false passed (Some index) deeper fits = deeper refl

type_fits-domain : (a b : HolType) → type_fits (function_type a b) ≡ true → type_fits a ≡ true
type_fits-domain a b fits = grind arith

pub some_type : (found : Option HolType) (s ty : HolType) → option_map (function_type s) found ≡ Some ty → (c : HolType) × (found ≡ Some c)
some_type None s ty is = cc
some_type (Some c) s ty is = (c, refl)

-- where the types of the image fit, those of the term do
types_fit-back : (binders : List Binder) (term : NamedTerm) (ty : HolType) → type_of term ≡ Some ty → BindersFit binders
    → nameless_types_fit (binder_types binders) (image_under binders term) ≡ true → types_fit term ≡ true
types_fit-back binders (variable name s) ty typed all fits = variable-fits binders name s all fits
types_fit-back binders (constant name s) ty typed all fits = fits
types_fit-back binders (combination f x) ty typed all fits =
    let parts = application-typed (type_of f) (type_of x) ty typed in
    let p = nameless_types_fit (binder_types binders) (image_under binders f) in
    let q = nameless_types_fit (binder_types binders) (image_under binders x) in
    both (types_fit f) (types_fit x)
    (types_fit-back binders f (function_type parts.0 ty) parts.1 all (first_of_both p q fits))
    (types_fit-back binders x parts.0 parts.2 all (second_of_both p q fits))
types_fit-back binders (abstraction name s body) ty typed all fits =
    let inner = image_under ((name, s) ∷ binders) body in
    let shape = nameless_type (s ∷ binder_types binders) inner in
    let p = nameless_types_fit (s ∷ binder_types binders) inner in
    let q = type_fits (function_type s shape) in
    let second : q ≡ true = second_of_both p q fits in
    let found = some_type (type_of body) s ty typed in
    let is : type_of body ≡ Some found.0 = found.1 in
    let same : shape ≡ found.0 = nameless_type-is inner (s ∷ binder_types binders) found.0 (image_under-typed ((name, s) ∷ binders) body found.0 is) in
    both (types_fit body) (some_type_fits (option_map (function_type s) (type_of body)))
    (types_fit-back ((name, s) ∷ binders) body found.0 is (type_fits-domain s shape second, all) (first_of_both p q fits))
    (ap (λ o. some_type_fits (option_map (function_type s) o)) is ∙ ap (λ c. type_fits (function_type s c)) (sym same) ∙ second)

refuted : (p q : Bool) → (q ≡ true → p ≡ true) → p ≡ false → q ≡ false
refuted p true step failed = sym (step refl) ∙ failed
refuted p false step failed = refl

-- three tests that pass together
all_three : (p q r : Bool) → p ≡ true → q ≡ true → r ≡ true → (p && q && r) ≡ true
all_three p q r first second third = both (p && q) r (both p q first second) third

each_of_three : (p q r : Bool) → (p && q && r) ≡ true → (p ≡ true) × (q ≡ true) × (r ≡ true)
each_of_three p q r all =
    let two : (p && q) ≡ true = first_of_both (p && q) r all in
    (first_of_both p q two, second_of_both p q two, second_of_both (p && q) r all)

-- the image of a term past the limits is past them
pub past_limits-image : (term : NamedTerm) (ty : HolType) → type_of term ≡ Some ty → is_within_limits term ≡ false → nameless_within_limits (image term) ≡ false
past_limits-image term ty typed past = refuted (is_within_limits term) (nameless_within_limits (image term)) step past
  where
    step : nameless_within_limits (image term) ≡ true → is_within_limits term ≡ true
    step within =
        let h = nat_le (nameless_height (image term)) TERM_HEIGHT_LIMIT in
        let n = nat_le (nameless_nodes (image term)) TERM_NODES_LIMIT in
        let f = nameless_types_fit [] (image term) in
        let each = each_of_three h n f within in
        all_three (nat_le (height term) TERM_HEIGHT_LIMIT) (nat_le (nodes term) TERM_NODES_LIMIT) (types_fit term)
        (ap (λ k. nat_le k TERM_HEIGHT_LIMIT) (sym (height-image [] term)) ∙ each.0)
        (ap (λ k. nat_le k TERM_NODES_LIMIT) (sym (nodes-image [] term)) ∙ each.1)
        (types_fit-back [] term ty typed tt each.2)

-- closing changes neither height nor nodes
height-choice : (test : Bool) (passed : ℕ) (name : List ℕ) (ty : HolType) → nameless_height (if test then bound passed else free name ty) ≡ 1
height-choice true passed name ty = refl
height-choice false passed name ty = refl

nodes-choice : (test : Bool) (passed : ℕ) (name : List ℕ) (ty : HolType) → nameless_nodes (if test then bound passed else free name ty) ≡ 1
nodes-choice true passed name ty = refl
nodes-choice false passed name ty = refl

height-close : (passed : ℕ) (name : List ℕ) (ty : HolType) (term : Nameless) → nameless_height (close_at passed name ty term) ≡ nameless_height term
height-close passed name ty (free other s) = height-choice (same_variable name ty other s) passed other s
height-close passed name ty (const other s) = refl
height-close passed name ty (bound index) = refl
height-close passed name ty (app f x) = rw (height-close passed name ty f, height-close passed name ty x) refl
height-close passed name ty (lam s body) = rw (height-close (suc passed) name ty body) refl

nodes-close : (passed : ℕ) (name : List ℕ) (ty : HolType) (term : Nameless) → nameless_nodes (close_at passed name ty term) ≡ nameless_nodes term
nodes-close passed name ty (free other s) = nodes-choice (same_variable name ty other s) passed other s
nodes-close passed name ty (const other s) = refl
nodes-close passed name ty (bound index) = refl
nodes-close passed name ty (app f x) = rw (nodes-close passed name ty f, nodes-close passed name ty x) refl
nodes-close passed name ty (lam s body) = rw (nodes-close (suc passed) name ty body) refl

types-close : (name : List ℕ) (a : HolType) (term : Nameless) (binders : List HolType) (ty : HolType) → HasType binders term ty → type_fits a ≡ true
    → nameless_types_fit (binders ++ a ∷ []) (close_at (length binders) name a term) ≡ true → nameless_types_fit binders term ≡ true
types-close name a (free other s) binders ty typed all fits = go (same_variable name a other s) refl fits
  where
    go : (test : Bool) → same_variable name a other s ≡ test
        → nameless_types_fit (binders ++ a ∷ []) (if test then bound (length binders) else free other s) ≡ true → type_fits s ≡ true
    go true passed fits = ap type_fits (sym (same_variable-type name other a s passed)) ∙ all
    go false passed fits = fits
types-close name a (const other s) binders ty typed all fits = fits
types-close name a (bound index) binders ty typed all fits = refl
types-close name a (app f x) binders ty typed all fits =
    let p = nameless_types_fit (binders ++ a ∷ []) (close_at (length binders) name a f) in
    let q = nameless_types_fit (binders ++ a ∷ []) (close_at (length binders) name a x) in
    both (nameless_types_fit binders f) (nameless_types_fit binders x)
    (types-close name a f binders (function_type typed.0 ty) typed.1 all (first_of_both p q fits))
    (types-close name a x binders typed.0 typed.2 all (second_of_both p q fits))
types-close name a (lam s body) binders ty typed all fits =
    let closed = close_at (suc (length binders)) name a body in
    let shape = nameless_type (s ∷ binders ++ a ∷ []) closed in
    let p = nameless_types_fit (s ∷ binders ++ a ∷ []) closed in
    let q = type_fits (function_type s shape) in
    let is : shape ≡ typed.0 = nameless_type-is closed (s ∷ binders ++ a ∷ []) typed.0 (close_at-typed name a body (s ∷ binders) typed.0 typed.1) in
    let was : nameless_type (s ∷ binders) body ≡ typed.0 = nameless_type-is body (s ∷ binders) typed.0 typed.1 in
    both (nameless_types_fit (s ∷ binders) body) (type_fits (function_type s (nameless_type (s ∷ binders) body)))
    (types-close name a body (s ∷ binders) typed.0 typed.1 all (first_of_both p q fits))
    (ap (λ c. type_fits (function_type s c)) (was ∙ sym is) ∙ second_of_both p q fits)

lower : (a b limit : ℕ) → a ≤ b → nat_le b limit ≡ true → nat_le a limit ≡ true
lower a b limit less fits = grind arith

-- an abstraction of a term past the limits is past them
pub past_limits-abstraction : (name : List ℕ) (a : HolType) (term : Nameless) (ty : HolType) → HasType [] term ty → nameless_within_limits term ≡ false
    → nameless_within_limits (lam a (close name a term)) ≡ false
past_limits-abstraction name a term ty typed past =
    refuted (nameless_within_limits term) (nameless_within_limits (lam a (close name a term))) step past
  where
    step : nameless_within_limits (lam a (close name a term)) ≡ true → nameless_within_limits term ≡ true
    step within =
        let closed = close name a term in
        let h = nat_le (nameless_height closed + 1) TERM_HEIGHT_LIMIT in
        let n = nat_le (nameless_nodes closed + 1) TERM_NODES_LIMIT in
        let p = nameless_types_fit (a ∷ []) closed in
        let q = type_fits (function_type a (nameless_type (a ∷ []) closed)) in
        let f = p && q in
        let each = each_of_three h n f within in
        let high : nameless_height closed ≡ nameless_height term = height-close 0 name a term in
        let many : nameless_nodes closed ≡ nameless_nodes term = nodes-close 0 name a term in
        all_three (nat_le (nameless_height term) TERM_HEIGHT_LIMIT) (nat_le (nameless_nodes term) TERM_NODES_LIMIT) (nameless_types_fit [] term)
        (lower (nameless_height term) (nameless_height closed + 1) TERM_HEIGHT_LIMIT (omega (arith, high)) each.0)
        (lower (nameless_nodes term) (nameless_nodes closed + 1) TERM_NODES_LIMIT (omega (arith, many)) each.1)
        (types-close name a term [] ty typed (type_fits-domain a (nameless_type (a ∷ []) closed) (second_of_both p q each.2)) (first_of_both p q each.2))

-- a combination of a part past the limits is past them
combination-step : (f x : Nameless) → nameless_within_limits (app f x) ≡ true → (nameless_within_limits f ≡ true) × (nameless_within_limits x ≡ true)
combination-step f x within =
    let h = nat_le (max (nameless_height f) (nameless_height x) + 1) TERM_HEIGHT_LIMIT in
    let n = nat_le (nameless_nodes f + nameless_nodes x + 1) TERM_NODES_LIMIT in
    let p = nameless_types_fit [] f in
    let q = nameless_types_fit [] x in
    let each = each_of_three h n (p && q) within in (
      all_three (nat_le (nameless_height f) TERM_HEIGHT_LIMIT) (nat_le (nameless_nodes f) TERM_NODES_LIMIT) p
          (lower (nameless_height f) (max (nameless_height f) (nameless_height x) + 1) TERM_HEIGHT_LIMIT (omega arith) each.0)
          (lower (nameless_nodes f) (nameless_nodes f + nameless_nodes x + 1) TERM_NODES_LIMIT (omega arith) each.1)
          (first_of_both p q each.2),
      all_three (nat_le (nameless_height x) TERM_HEIGHT_LIMIT) (nat_le (nameless_nodes x) TERM_NODES_LIMIT) q
          (lower (nameless_height x) (max (nameless_height f) (nameless_height x) + 1) TERM_HEIGHT_LIMIT (omega arith) each.0)
          (lower (nameless_nodes x) (nameless_nodes f + nameless_nodes x + 1) TERM_NODES_LIMIT (omega arith) each.1)
          (second_of_both p q each.2),
    )

pub past_limits-argument : (f x : Nameless) → nameless_within_limits x ≡ false → nameless_within_limits (app f x) ≡ false
past_limits-argument f x past = refuted (nameless_within_limits x) (nameless_within_limits (app f x)) (λ within. (combination-step f x within).1) past

-- a type past the limit
pub past_limit-type : (ty : HolType) → TYPE_NODES_LIMIT < type_nodes ty → type_fits ty ≡ false
past_limit-type ty past = grind arith
