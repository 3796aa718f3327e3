-- Equations of small terms, and of what is put together of two of them, are within the limits.
use Rattle.std.proofs.Common.{◌≡◌, ℕ, zero, suc, ◌≤◌, List, [], ◌∷◌, ◌++◌, length, Bool, true, false, ◌&&◌, refl, sym, ◌∙◌, ap, subst, if◌then◌else◌, arith, Option, Some, None, nat_le, if◌then◌else◌}
use Rattle.std.specs.Prelude.{nat_eq}
use Rattle.std.specs.Cmp.{unsigned_Decides}
use Rattle.std.specs.Option.{option_map, option_map_or}
use Rattle.std.proofs.lemmas.Bool.{leb-true, le-leb}
use Rattle.hol_model.specs.declared.limits.TheConstants.{TYPE_NODES_LIMIT, TERM_NODES_LIMIT, TERM_HEIGHT_LIMIT}
use Rattle.hol_model.specs.Terms.HolType.{HolType, bool_type, function_type, codomain_of, type_nodes}
use Rattle.hol_model.specs.Terms.NamedTerm.{NamedTerm, variable, constant, combination, abstraction, Binder, same_variable, type_of, equality, equation}
use Rattle.hol_model.specs.Terms.NamedTerm.{height, nodes, type_fits, some_type_fits, types_fit, is_within_limits}
use Rattle.hol_model.specs.Terms.Nameless.{Nameless, free, const, bound, app, lam, image, image_under, variable_image, binder_index, binder_type, nameless_type}
use Rattle.hol_model.specs.Terms.Measures.{nameless_height, nameless_nodes, nameless_types_fit, nameless_within_limits}
use Rattle.hol_model.specs.Terms.Substitution.{fill_at, fill}
use Rattle.hol_model.specs.Logic.Theory.{equality_name, equality_type}
use Rattle.hol_model.specs.Logic.Derivable.{nameless_equation}
use Rattle.hol_model.specs.Derived.DerivedRules.{ROOMY_HEIGHT, ROOMY_NODES, ROOMY_TYPE_NODES, is_roomy_type, has_roomy_types, is_roomy}
use Rattle.hol_model.specs.Rewrites.SmallTerms.{SMALL_HEIGHT, SMALL_NODES, SMALL_TYPE_NODES, is_small_type, has_small_types, is_small}
use Rattle.hol_model.proofs.Tests.{first_of_both, second_of_both, both, same_variable-type}
use Rattle.hol_model.proofs.Terms.Typing.{nameless_type-is}
use Rattle.hol_model.proofs.Terms.Images.{binder_types, application-typed, image-typed, image_under-typed}
use Rattle.hol_model.proofs.Terms.Measures.{height-image, nodes-image}

-- ---- types of small terms

-- the types of all binders are small
abbrev pub AreSmallTypes : List HolType → Type 0
AreSmallTypes [] = Unit {0}
AreSmallTypes (ty ∷ types) = (type_nodes ty ≤ SMALL_TYPE_NODES) × AreSmallTypes types

small-binder : (types : List HolType) (index : ℕ) → AreSmallTypes types → type_nodes (binder_type types index) ≤ SMALL_TYPE_NODES
small-binder [] index all = omega arith
small-binder (ty ∷ types) zero all = all.0
small-binder (ty ∷ types) (suc index) all = small-binder types index all.1

codomain-nodes : (ty : HolType) (n : ℕ) → type_nodes ty ≤ n → type_nodes (codomain_of ty) ≤ n
codomain-nodes ty n few = grind arith

domain-small : (a b : HolType) → type_nodes (function_type a b) ≤ SMALL_TYPE_NODES → type_nodes a ≤ SMALL_TYPE_NODES
domain-small a b few = omega arith

-- so is the type of a term
small-type : (types : List HolType) (t : Nameless) → AreSmallTypes types → has_small_types types t ≡ true → type_nodes (nameless_type types t) ≤ SMALL_TYPE_NODES
small-type types (free name ty) all small = leb-true _ _ small
small-type types (const name ty) all small = leb-true _ _ small
small-type types (bound index) all small = small-binder types index all
small-type types (app f x) all small =
    codomain-nodes (nameless_type types f) SMALL_TYPE_NODES (small-type types f all (first_of_both (has_small_types types f) (has_small_types types x) small))
small-type types (lam ty body) all small =
    leb-true _ _ (second_of_both (has_small_types (ty ∷ types) body) (is_small_type (function_type ty (nameless_type (ty ∷ types) body))) small)

-- ---- what a term with names has

-- the types of a small term are within the limit
small-variable : (binders : List Binder) (name : List ℕ) (ty : HolType) → AreSmallTypes (binder_types binders)
    → has_small_types (binder_types binders) (variable_image binders name ty) ≡ true → type_nodes ty ≤ SMALL_TYPE_NODES
small-variable [] name ty all small = leb-true _ _ small
small-variable (binder ∷ binders) name ty all small =
    go (same_variable binder.0 binder.1 name ty) refl (binder_index binders name ty) (small-variable binders name ty all.1) small
  where
    go : (test : Bool) → same_variable binder.0 binder.1 name ty ≡ test → (found : Option ℕ)
        → (has_small_types (binder_types binders) (option_map_or bound found (free name ty)) ≡ true → type_nodes ty ≤ SMALL_TYPE_NODES)
        → has_small_types (binder_types (binder ∷ binders)) (option_map_or bound (if test then Some 0 else option_map suc found) (free name ty)) ≡ true
        → type_nodes ty ≤ SMALL_TYPE_NODES
    go true passed found deeper small = subst (λ (t : HolType). type_nodes t ≤ SMALL_TYPE_NODES) (same_variable-type binder.0 name binder.1 ty passed) all.0
    go false passed None deeper small = leb-true _ _ small
    go false passed (Some index) deeper small = deeper refl

few-fit : (ty : HolType) (n : ℕ) → type_nodes ty ≤ n → n ≤ TYPE_NODES_LIMIT → type_fits ty ≡ true
few-fit ty n few low = le-leb _ _ (omega arith)

small-types-fit : (binders : List Binder) (t : NamedTerm) → AreSmallTypes (binder_types binders) → has_small_types (binder_types binders) (image_under binders t) ≡ true
    → types_fit t ≡ true
small-types-fit binders (variable name ty) all small = few-fit ty SMALL_TYPE_NODES (small-variable binders name ty all small) (omega arith)
small-types-fit binders (constant name ty) all small = few-fit ty SMALL_TYPE_NODES (leb-true _ _ small) (omega arith)
small-types-fit binders (combination f x) all small =
    let p = has_small_types (binder_types binders) (image_under binders f) in
    let q = has_small_types (binder_types binders) (image_under binders x) in
    both (types_fit f) (types_fit x) (small-types-fit binders f all (first_of_both p q small)) (small-types-fit binders x all (second_of_both p q small))
small-types-fit binders (abstraction name ty body) all small =
    both (types_fit body) (some_type_fits (option_map (function_type ty) (type_of body)))
    (small-types-fit ((name, ty) ∷ binders) body (domain-small ty shape few, all) (first_of_both p q small)) (by_type (type_of body) refl)
  where
    inner : Nameless
    inner = image_under ((name, ty) ∷ binders) body

    shape : HolType
    shape = nameless_type (ty ∷ binder_types binders) inner

    p : Bool
    p = has_small_types (ty ∷ binder_types binders) inner

    q : Bool
    q = is_small_type (function_type ty shape)

    few : type_nodes (function_type ty shape) ≤ SMALL_TYPE_NODES
    few = leb-true _ _ (second_of_both p q small)

    by_type : (found : Option HolType) → type_of body ≡ found → some_type_fits (option_map (function_type ty) found) ≡ true
    by_type None is = refl
    by_type (Some codomain) is =
        let same : shape ≡ codomain = nameless_type-is inner (ty ∷ binder_types binders) codomain (image_under-typed ((name, ty) ∷ binders) body codomain is) in
        few-fit (function_type ty codomain) SMALL_TYPE_NODES (subst (λ (c : HolType). type_nodes (function_type ty c) ≤ SMALL_TYPE_NODES) same few) (omega arith)

-- height, nodes and types are no more than this
pub record IsAtMost (tall many few : ℕ) (t : NamedTerm) : Type 0 where
  pub height_is : height t ≤ tall
  pub nodes_are : nodes t ≤ many
  pub types : types_fit t ≡ true
  pub whole : (ty : HolType) → type_of t ≡ Some ty → type_nodes ty ≤ few

-- a small term, and an abstraction or a combination of small ones
abbrev pub IsLow : NamedTerm → Type 0
IsLow t = IsAtMost 500 2000 100 t

abbrev pub IsModest : NamedTerm → Type 0
IsModest t = IsAtMost 501 4001 201 t

pub small-low : (t : NamedTerm) → is_small (image t) ≡ true → IsLow t
small-low t small =
    let h = nat_le (nameless_height (image t)) SMALL_HEIGHT in
    let n = nat_le (nameless_nodes (image t)) SMALL_NODES in
    let two : (h && n) ≡ true = first_of_both (h && n) (has_small_types [] (image t)) small in
    let types : has_small_types [] (image t) ≡ true = second_of_both (h && n) (has_small_types [] (image t)) small in
    record {
      height_is = subst (λ (k : ℕ). k ≤ SMALL_HEIGHT) (height-image [] t) (leb-true _ _ (first_of_both h n two));
      nodes_are = subst (λ (k : ℕ). k ≤ SMALL_NODES) (nodes-image [] t) (leb-true _ _ (second_of_both h n two));
      types = small-types-fit [] t tt types;
      whole = λ ty typed. subst (λ (s : HolType). type_nodes s ≤ SMALL_TYPE_NODES) (nameless_type-is (image t) [] ty (image-typed t ty typed)) (small-type [] (image t) tt types);
    }

pub low-modest : (t : NamedTerm) → IsLow t → IsModest t
low-modest t low =
    let tall = low.height_is in
    let many = low.nodes_are in
    record { height_is = omega arith; nodes_are = omega arith; types = low.types; whole = λ ty typed. let few = low.whole ty typed in omega arith }

codomain-small : (a b : HolType) → type_nodes (function_type a b) ≤ 100 → type_nodes b ≤ 201
codomain-small a b few = omega arith

pub combination-modest : (f x : NamedTerm) → IsLow f → IsLow x → IsModest (combination f x)
combination-modest f x low_f low_x =
    let tall_f = low_f.height_is in
    let tall_x = low_x.height_is in
    let many_f = low_f.nodes_are in
    let many_x = low_x.nodes_are in
    record {
      height_is = omega arith;
      nodes_are = omega arith;
      types = both (types_fit f) (types_fit x) low_f.types low_x.types;
      whole = λ ty typed. let parts = application-typed (type_of f) (type_of x) ty typed in codomain-small parts.0 ty (low_f.whole (function_type parts.0 ty) parts.1);
    }

abstraction-type : (ty whole : HolType) (found : Option HolType) → type_nodes ty ≤ 100 → ((c : HolType) → found ≡ Some c → type_nodes c ≤ 100) → option_map (function_type ty) found ≡ Some whole
    → type_nodes whole ≤ 201
abstraction-type ty whole None few codomain is = cc
abstraction-type ty whole (Some c) few codomain is =
    let less : type_nodes c ≤ 100 = codomain c refl in
    let same : function_type ty c ≡ whole = cc in
    let sum : type_nodes (function_type ty c) ≤ 201 = omega arith in
    subst (λ (s : HolType). type_nodes s ≤ 201) same sum

abstraction-fits : (ty : HolType) (found : Option HolType) → ((whole : HolType) → option_map (function_type ty) found ≡ Some whole → type_nodes whole ≤ 201)
    → some_type_fits (option_map (function_type ty) found) ≡ true
abstraction-fits ty None few = refl
abstraction-fits ty (Some c) few = few-fit (function_type ty c) 201 (few (function_type ty c) refl) (omega arith)

pub abstraction-modest : (name : List ℕ) (ty : HolType) (body : NamedTerm) → type_nodes ty ≤ 100 → IsLow body → IsModest (abstraction name ty body)
abstraction-modest name ty body few low =
    let tall = low.height_is in
    let many = low.nodes_are in
    let whole : (s : HolType) → option_map (function_type ty) (type_of body) ≡ Some s → type_nodes s ≤ 201 = λ s typed. abstraction-type ty s (type_of body) few low.whole typed in
    record {
      height_is = omega arith;
      nodes_are = omega arith;
      types = both (types_fit body) (some_type_fits (option_map (function_type ty) (type_of body))) low.types (abstraction-fits ty (type_of body) whole);
      whole = whole;
    }

-- ---- equations

equality-fits : (found : Option HolType) → ((ty : HolType) → found ≡ Some ty → type_nodes ty ≤ 201) → types_fit (equality found) ≡ true
equality-fits None few = refl
equality-fits (Some ty) few = let less : type_nodes ty ≤ 201 = few ty refl in few-fit (function_type ty (function_type ty bool_type)) 406 (omega arith) (omega arith)

equality-height : (found : Option HolType) → height (equality found) ≡ 1
equality-height None = refl
equality-height (Some ty) = refl

equality-nodes : (found : Option HolType) → nodes (equality found) ≡ 1
equality-nodes None = refl
equality-nodes (Some ty) = refl

pub equation-fits : (a b : NamedTerm) → IsModest a → IsModest b → is_within_limits (equation a b) ≡ true
equation-fits a b left right =
    let tall_a = left.height_is in
    let tall_b = right.height_is in
    let many_a = left.nodes_are in
    let many_b = right.nodes_are in
    let one = equality-height (type_of a) in
    let single = equality-nodes (type_of a) in
    let low : height (equation a b) ≤ TERM_HEIGHT_LIMIT = omega arith in
    let few : nodes (equation a b) ≤ TERM_NODES_LIMIT = omega arith in
    both (nat_le (height (equation a b)) TERM_HEIGHT_LIMIT && nat_le (nodes (equation a b)) TERM_NODES_LIMIT) (types_fit (equation a b))
    (both (nat_le (height (equation a b)) TERM_HEIGHT_LIMIT) (nat_le (nodes (equation a b)) TERM_NODES_LIMIT) (le-leb _ _ low) (le-leb _ _ few))
    (both (types_fit (equality (type_of a)) && types_fit a) (types_fit b)
    (both (types_fit (equality (type_of a))) (types_fit a) (equality-fits (type_of a) left.whole) left.types) right.types)

-- ---- terms without bound names

-- what a small term has
record HasSmallMeasures (t : Nameless) : Type 0 where
  height_is : nameless_height t ≤ SMALL_HEIGHT
  nodes_are : nameless_nodes t ≤ SMALL_NODES
  types : has_small_types [] t ≡ true

measures : (t : Nameless) → is_small t ≡ true → HasSmallMeasures t
measures t small =
    let h = nat_le (nameless_height t) SMALL_HEIGHT in
    let n = nat_le (nameless_nodes t) SMALL_NODES in
    let two : (h && n) ≡ true = first_of_both (h && n) (has_small_types [] t) small in
    record { height_is = leb-true _ _ (first_of_both h n two); nodes_are = leb-true _ _ (second_of_both h n two); types = second_of_both (h && n) (has_small_types [] t) small }

is-small : (t : Nameless) → nameless_height t ≤ SMALL_HEIGHT → nameless_nodes t ≤ SMALL_NODES → has_small_types [] t ≡ true → is_small t ≡ true
is-small t tall many types =
    both (nat_le (nameless_height t) SMALL_HEIGHT && nat_le (nameless_nodes t) SMALL_NODES) (has_small_types [] t)
    (both (nat_le (nameless_height t) SMALL_HEIGHT) (nat_le (nameless_nodes t) SMALL_NODES) (le-leb _ _ tall) (le-leb _ _ many)) types

pub small-whole-type : (t : Nameless) → is_small t ≡ true → type_nodes (nameless_type [] t) ≤ SMALL_TYPE_NODES
small-whole-type t small = let has = measures t small in small-type [] t tt has.types

pub small-parts : (f x : Nameless) → is_small (app f x) ≡ true → (is_small f ≡ true) × (is_small x ≡ true)
small-parts f x small =
    let whole = measures (app f x) small in
    let tall = whole.height_is in
    let many = whole.nodes_are in (
      is-small f (omega arith) (omega arith) (first_of_both (has_small_types [] f) (has_small_types [] x) whole.types),
      is-small x (omega arith) (omega arith) (second_of_both (has_small_types [] f) (has_small_types [] x) whole.types),
    )

pub small-binder-type : (ty : HolType) (body : Nameless) → is_small (lam ty body) ≡ true → type_nodes ty ≤ SMALL_TYPE_NODES
small-binder-type ty body small =
    let whole = measures (lam ty body) small in
    domain-small ty (nameless_type (ty ∷ []) body)
    (leb-true _ _ (second_of_both (has_small_types (ty ∷ []) body) (is_small_type (function_type ty (nameless_type (ty ∷ []) body))) whole.types))

few-roomy : (ty : HolType) (n : ℕ) → type_nodes ty ≤ n → n ≤ ROOMY_TYPE_NODES → is_roomy_type ty ≡ true
few-roomy ty n few low = le-leb _ _ (omega arith)

types-roomy : (types : List HolType) (t : Nameless) → has_small_types types t ≡ true → has_roomy_types types t ≡ true
types-roomy types (free name ty) small = few-roomy ty SMALL_TYPE_NODES (leb-true _ _ small) (omega arith)
types-roomy types (const name ty) small = few-roomy ty SMALL_TYPE_NODES (leb-true _ _ small) (omega arith)
types-roomy types (bound index) small = refl
types-roomy types (app f x) small =
    let p = has_small_types types f in
    let q = has_small_types types x in
    both (has_roomy_types types f) (has_roomy_types types x) (types-roomy types f (first_of_both p q small)) (types-roomy types x (second_of_both p q small))
types-roomy types (lam ty body) small =
    let whole = function_type ty (nameless_type (ty ∷ types) body) in
    let p = has_small_types (ty ∷ types) body in
    let q = is_small_type whole in
    both (has_roomy_types (ty ∷ types) body) (is_roomy_type whole) (types-roomy (ty ∷ types) body (first_of_both p q small))
    (few-roomy whole SMALL_TYPE_NODES (leb-true _ _ (second_of_both p q small)) (omega arith))

is-roomy : (t : Nameless) → nameless_height t ≤ ROOMY_HEIGHT → nameless_nodes t ≤ ROOMY_NODES → has_roomy_types [] t ≡ true → is_roomy t ≡ true
is-roomy t tall many types =
    both (nat_le (nameless_height t) ROOMY_HEIGHT && nat_le (nameless_nodes t) ROOMY_NODES) (has_roomy_types [] t)
    (both (nat_le (nameless_height t) ROOMY_HEIGHT) (nat_le (nameless_nodes t) ROOMY_NODES) (le-leb _ _ tall) (le-leb _ _ many)) types

pub small-roomy : (t : Nameless) → is_small t ≡ true → is_roomy t ≡ true
small-roomy t small =
    let has = measures t small in
    let tall = has.height_is in
    let many = has.nodes_are in
    is-roomy t (omega arith) (omega arith) (types-roomy [] t has.types)

-- two small terms under a constant
pub joined-roomy : (name : List ℕ) (ty : HolType) (x y : Nameless) → type_nodes ty ≤ ROOMY_TYPE_NODES → is_small x ≡ true → is_small y ≡ true
    → is_roomy (app (app (const name ty) x) y) ≡ true
joined-roomy name ty x y few small_x small_y =
    let one = measures x small_x in
    let two = measures y small_y in
    let tall_x = one.height_is in
    let tall_y = two.height_is in
    let many_x = one.nodes_are in
    let many_y = two.nodes_are in
    is-roomy (app (app (const name ty) x) y) (omega arith) (omega arith)
    (both (is_roomy_type ty && has_roomy_types [] x) (has_roomy_types [] y)
    (both (is_roomy_type ty) (has_roomy_types [] x) (le-leb _ _ few) (types-roomy [] x one.types)) (types-roomy [] y two.types))

-- an equation of small terms
pub equation-roomy : (ty : HolType) (x y : Nameless) → type_nodes ty ≤ SMALL_TYPE_NODES → is_small x ≡ true → is_small y ≡ true → is_roomy (nameless_equation ty x y) ≡ true
equation-roomy ty x y few small_x small_y = joined-roomy equality_name (equality_type ty) x y (omega arith) small_x small_y

-- what leaves room is within the limits
types-within : (types : List HolType) (t : Nameless) → has_roomy_types types t ≡ true → nameless_types_fit types t ≡ true
types-within types (free name ty) roomy = few-fit ty ROOMY_TYPE_NODES (leb-true _ _ roomy) (omega arith)
types-within types (const name ty) roomy = few-fit ty ROOMY_TYPE_NODES (leb-true _ _ roomy) (omega arith)
types-within types (bound index) roomy = refl
types-within types (app f x) roomy =
    let p = has_roomy_types types f in
    let q = has_roomy_types types x in
    both (nameless_types_fit types f) (nameless_types_fit types x) (types-within types f (first_of_both p q roomy)) (types-within types x (second_of_both p q roomy))
types-within types (lam ty body) roomy =
    let whole = function_type ty (nameless_type (ty ∷ types) body) in
    let p = has_roomy_types (ty ∷ types) body in
    let q = is_roomy_type whole in
    both (nameless_types_fit (ty ∷ types) body) (type_fits whole) (types-within (ty ∷ types) body (first_of_both p q roomy))
    (few-fit whole ROOMY_TYPE_NODES (leb-true _ _ (second_of_both p q roomy)) (omega arith))

pub roomy-within : (t : Nameless) → is_roomy t ≡ true → nameless_within_limits t ≡ true
roomy-within t roomy =
    let h = nat_le (nameless_height t) ROOMY_HEIGHT in
    let n = nat_le (nameless_nodes t) ROOMY_NODES in
    let two : (h && n) ≡ true = first_of_both (h && n) (has_roomy_types [] t) roomy in
    let tall : nameless_height t ≤ ROOMY_HEIGHT = leb-true _ _ (first_of_both h n two) in
    let many : nameless_nodes t ≤ ROOMY_NODES = leb-true _ _ (second_of_both h n two) in
    let low : nameless_height t ≤ TERM_HEIGHT_LIMIT = omega arith in
    let few : nameless_nodes t ≤ TERM_NODES_LIMIT = omega arith in
    both (nat_le (nameless_height t) TERM_HEIGHT_LIMIT && nat_le (nameless_nodes t) TERM_NODES_LIMIT) (nameless_types_fit [] t)
    (both (nat_le (nameless_height t) TERM_HEIGHT_LIMIT) (nat_le (nameless_nodes t) TERM_NODES_LIMIT) (le-leb _ _ low) (le-leb _ _ few))
    (types-within [] t (second_of_both (h && n) (has_roomy_types [] t) roomy))

-- ---- a variable in the place of a bound one

-- the type of the binder that is filled, and of the others
filled-binder : (front : List HolType) (s : HolType) → binder_type (front ++ s ∷ []) (length front) ≡ s
filled-binder [] s = refl
filled-binder (a ∷ front) s = filled-binder front s

other-binder : (front : List HolType) (s : HolType) (index : ℕ) → (index ≡ length front → ⊥) → binder_type front index ≡ binder_type (front ++ s ∷ []) index
other-binder [] s zero other = absurd (other refl)
other-binder [] s (suc index) other = refl
other-binder (a ∷ front) s zero other = refl
other-binder (a ∷ front) s (suc index) other = other-binder front s index (λ is. other (ap suc is))

filled-height : (new : Nameless) (passed : ℕ) (t : Nameless) → nameless_height new ≡ 1 → nameless_height (fill_at passed new t) ≡ nameless_height t
filled-height new passed (free name ty) one = refl
filled-height new passed (const name ty) one = refl
filled-height new passed (bound index) one = go (nat_eq index passed)
  where
    go : (test : Bool) → nameless_height (if test then new else bound index) ≡ 1
    go true = one
    go false = refl
filled-height new passed (app f x) one = rw (filled-height new passed f one, filled-height new passed x one) refl
filled-height new passed (lam ty body) one = rw (filled-height new (suc passed) body one) refl

filled-nodes : (new : Nameless) (passed : ℕ) (t : Nameless) → nameless_nodes new ≡ 1 → nameless_nodes (fill_at passed new t) ≡ nameless_nodes t
filled-nodes new passed (free name ty) one = refl
filled-nodes new passed (const name ty) one = refl
filled-nodes new passed (bound index) one = go (nat_eq index passed)
  where
    go : (test : Bool) → nameless_nodes (if test then new else bound index) ≡ 1
    go true = one
    go false = refl
filled-nodes new passed (app f x) one = rw (filled-nodes new passed f one, filled-nodes new passed x one) refl
filled-nodes new passed (lam ty body) one = rw (filled-nodes new (suc passed) body one) refl

filled-type : (front : List HolType) (name : List ℕ) (s : HolType) (t : Nameless) → nameless_type front (fill_at (length front) (free name s) t) ≡ nameless_type (front ++ s ∷ []) t
filled-type front name s (free other ty) = refl
filled-type front name s (const other ty) = refl
filled-type front name s (bound index) = go (nat_eq index (length front)) refl
  where
    go : (test : Bool) → nat_eq index (length front) ≡ test → nameless_type front (if test then free name s else bound index) ≡ binder_type (front ++ s ∷ []) index
    go true tested = sym (ap (binder_type (front ++ s ∷ [])) ((unsigned_Decides index (length front)).0 tested) ∙ filled-binder front s)
    go false tested = other-binder front s index (λ is. let passed = (unsigned_Decides index (length front)).1 is in cc)
filled-type front name s (app f x) = ap codomain_of (filled-type front name s f)
filled-type front name s (lam ty body) = ap (λ c. function_type ty c) (filled-type (ty ∷ front) name s body)

filled-types : (front : List HolType) (name : List ℕ) (s : HolType) (t : Nameless) → is_small_type s ≡ true → has_small_types (front ++ s ∷ []) t ≡ true
    → has_small_types front (fill_at (length front) (free name s) t) ≡ true
filled-types front name s (free other ty) few small = small
filled-types front name s (const other ty) few small = small
filled-types front name s (bound index) few small = go (nat_eq index (length front))
  where
    go : (test : Bool) → has_small_types front (if test then free name s else bound index) ≡ true
    go true = few
    go false = refl
filled-types front name s (app f x) few small =
    let p = has_small_types (front ++ s ∷ []) f in
    let q = has_small_types (front ++ s ∷ []) x in
    both (has_small_types front (fill_at (length front) (free name s) f)) (has_small_types front (fill_at (length front) (free name s) x))
    (filled-types front name s f few (first_of_both p q small)) (filled-types front name s x few (second_of_both p q small))
filled-types front name s (lam ty body) few small =
    let filled = fill_at (length (ty ∷ front)) (free name s) body in
    let p = has_small_types (ty ∷ front ++ s ∷ []) body in
    let q = is_small_type (function_type ty (nameless_type (ty ∷ front ++ s ∷ []) body)) in
    both (has_small_types (ty ∷ front) filled) (is_small_type (function_type ty (nameless_type (ty ∷ front) filled)))
    (filled-types (ty ∷ front) name s body few (first_of_both p q small))
    (ap (λ c. is_small_type (function_type ty c)) (filled-type (ty ∷ front) name s body) ∙ second_of_both p q small)

pub filled-small : (name : List ℕ) (s : HolType) (body : Nameless) → is_small (lam s body) ≡ true → is_small (fill (free name s) body) ≡ true
filled-small name s body small =
    let whole = measures (lam s body) small in
    let tall = whole.height_is in
    let many = whole.nodes_are in
    let height_is = filled-height (free name s) 0 body refl in
    let nodes_are = filled-nodes (free name s) 0 body refl in
    let few : type_nodes s ≤ SMALL_TYPE_NODES = small-binder-type s body small in
    is-small (fill (free name s) body) (omega arith) (omega arith)
    (filled-types [] name s body (le-leb _ _ few)
    (first_of_both (has_small_types (s ∷ []) body) (is_small_type (function_type s (nameless_type (s ∷ []) body))) whole.types))
