-- Where a rule's instance is within the limits, so is what the types alone make of the rule: heights, nodes and types only grow as terms are put for
-- variables of their types.
use Rattle.std.proofs.Common.{◌≡◌, ℕ, zero, suc, ◌≤◌, List, [], ◌∷◌, ◌++◌, map, Bool, true, ◌&&◌, refl, sym, ◌∙◌, ap, inl, inr, Some, arith, nat_le}
use Rattle.std.specs.Prelude.{slice_get}
use Rattle.std.specs.List.{list_all}
use Rattle.hol_model.specs.declared.limits.TheConstants.{TERM_NODES_LIMIT, TERM_HEIGHT_LIMIT}
use Rattle.hol_model.specs.Terms.HolType.{HolType, bool_type, function_type, type_instance_of}
use Rattle.hol_model.specs.Terms.NamedTerm.{type_fits}
use Rattle.hol_model.specs.Terms.Nameless.{Nameless, free, const, bound, app, lam, HasType, nameless_type}
use Rattle.hol_model.specs.Terms.Measures.{nameless_height, nameless_nodes, nameless_types_fit, nameless_within_limits}
use Rattle.hol_model.specs.Terms.Substitution.{TermInstance, put, replacement}
use Rattle.hol_model.specs.Kernel.Instantiation.{instantiate_all}
use Rattle.hol_model.specs.Logic.Derivable.{IsMember}
use Rattle.hol_model.specs.Rewrites.Rewriting.{Replacements, replaced}
use Rattle.hol_model.proofs.Tests.{first_of_both, second_of_both, both}
use Rattle.hol_model.proofs.Terms.Typing.{nameless_type-is, put-typed, instantiate-typed, HasType-more}

abbrev IsTyped : TermInstance → Type 0
IsTyped theta = (name : List ℕ) (ty : HolType) → HasType [] (theta name ty) ty

-- a term has a height and nodes

some_height : (term : Nameless) → 1 ≤ nameless_height term
some_height (free name ty) = omega arith
some_height (const name ty) = omega arith
some_height (bound index) = omega arith
some_height (app f x) = omega arith
some_height (lam ty body) = omega arith

some_nodes : (term : Nameless) → 1 ≤ nameless_nodes term
some_nodes (free name ty) = omega arith
some_nodes (const name ty) = omega arith
some_nodes (bound index) = omega arith
some_nodes (app f x) = omega arith
some_nodes (lam ty body) = omega arith

height-put : (theta : TermInstance) (term : Nameless) → nameless_height term ≤ nameless_height (put theta term)
height-put theta (free name ty) = some_height (theta name ty)
height-put theta (const name ty) = omega arith
height-put theta (bound index) = omega arith
height-put theta (app f x) =
    let one : nameless_height f ≤ nameless_height (put theta f) = height-put theta f in
    let two : nameless_height x ≤ nameless_height (put theta x) = height-put theta x in
    omega arith
height-put theta (lam ty body) = let one : nameless_height body ≤ nameless_height (put theta body) = height-put theta body in omega arith

nodes-put : (theta : TermInstance) (term : Nameless) → nameless_nodes term ≤ nameless_nodes (put theta term)
nodes-put theta (free name ty) = some_nodes (theta name ty)
nodes-put theta (const name ty) = omega arith
nodes-put theta (bound index) = omega arith
nodes-put theta (app f x) =
    let one : nameless_nodes f ≤ nameless_nodes (put theta f) = nodes-put theta f in
    let two : nameless_nodes x ≤ nameless_nodes (put theta x) = nodes-put theta x in
    omega arith
nodes-put theta (lam ty body) = let one : nameless_nodes body ≤ nameless_nodes (put theta body) = nodes-put theta body in omega arith

-- the types of all binders are within the limit
abbrev BindersFit : List HolType → Type 0
BindersFit [] = Unit {0}
BindersFit (ty ∷ binders) = (type_fits ty ≡ true) × BindersFit binders

binder-fits : (binders : List HolType) (index : ℕ) (ty : HolType) → BindersFit binders → slice_get binders index ≡ Some ty → type_fits ty ≡ true
binder-fits [] index ty all there = cc
binder-fits (a ∷ binders) zero ty all there = let same : a ≡ ty = cc in ap type_fits (sym same) ∙ all.0
binder-fits (a ∷ binders) (suc index) ty all there = binder-fits binders index ty all.1 there

type_fits-domain : (a b : HolType) → type_fits (function_type a b) ≡ true → type_fits a ≡ true
type_fits-domain a b fits = grind arith

type_fits-codomain : (a b : HolType) → type_fits (function_type a b) ≡ true → type_fits b ≡ true
type_fits-codomain a b fits = grind arith

-- the type of a term whose types fit
type-fits : (term : Nameless) (binders : List HolType) (ty : HolType) → BindersFit binders → HasType binders term ty → nameless_types_fit binders term ≡ true → type_fits ty ≡ true
type-fits (free name a) binders ty all typed fits = ap type_fits (sym typed) ∙ fits
type-fits (const name a) binders ty all typed fits = ap type_fits (sym typed) ∙ fits
type-fits (bound index) binders ty all typed fits = binder-fits binders index ty all typed
type-fits (app f x) binders ty all typed fits =
    type_fits-codomain typed.0 ty
    (type-fits f binders (function_type typed.0 ty) all typed.1 (first_of_both (nameless_types_fit binders f) (nameless_types_fit binders x) fits))
type-fits (lam a body) binders ty all typed fits =
    let shape = nameless_type (a ∷ binders) body in
    let is : function_type a shape ≡ ty = ap (function_type a) (nameless_type-is body (a ∷ binders) typed.0 typed.1) ∙ typed.2 in
    ap type_fits (sym is) ∙ second_of_both (nameless_types_fit (a ∷ binders) body) (type_fits (function_type a shape)) fits

types-put : (theta : TermInstance) → IsTyped theta → (term : Nameless) (binders : List HolType) (ty : HolType) → BindersFit binders → HasType binders term ty
    → nameless_types_fit binders (put theta term) ≡ true → nameless_types_fit binders term ≡ true
types-put theta all_typed (free name a) binders ty all typed fits = type-fits (theta name a) binders a all (HasType-more (theta name a) [] binders a (all_typed name a)) fits
types-put theta all_typed (const name a) binders ty all typed fits = fits
types-put theta all_typed (bound index) binders ty all typed fits = refl
types-put theta all_typed (app f x) binders ty all typed fits =
    let p = nameless_types_fit binders (put theta f) in
    let q = nameless_types_fit binders (put theta x) in
    both (nameless_types_fit binders f) (nameless_types_fit binders x)
    (types-put theta all_typed f binders (function_type typed.0 ty) all typed.1 (first_of_both p q fits))
    (types-put theta all_typed x binders typed.0 all typed.2 (second_of_both p q fits))
types-put theta all_typed (lam a body) binders ty all typed fits =
    let new = put theta body in
    let shape = nameless_type (a ∷ binders) new in
    let p = nameless_types_fit (a ∷ binders) new in
    let second : type_fits (function_type a shape) ≡ true = second_of_both p (type_fits (function_type a shape)) fits in
    let is : shape ≡ typed.0 = nameless_type-is new (a ∷ binders) typed.0 (put-typed theta all_typed body (a ∷ binders) typed.0 typed.1) in
    let was : nameless_type (a ∷ binders) body ≡ typed.0 = nameless_type-is body (a ∷ binders) typed.0 typed.1 in
    both (nameless_types_fit (a ∷ binders) body) (type_fits (function_type a (nameless_type (a ∷ binders) body)))
    (types-put theta all_typed body (a ∷ binders) typed.0 (type_fits-domain a shape second, all) typed.1 (first_of_both p (type_fits (function_type a shape)) fits))
    (ap (λ c. type_fits (function_type a c)) (was ∙ sym is) ∙ second)

lower : (a b limit : ℕ) → a ≤ b → nat_le b limit ≡ true → nat_le a limit ≡ true
lower a b limit less fits = grind arith

within-put : (theta : TermInstance) → IsTyped theta → (term : Nameless) (ty : HolType) → HasType [] term ty → nameless_within_limits (put theta term) ≡ true → nameless_within_limits term ≡ true
within-put theta all_typed term ty typed within =
    let h = nat_le (nameless_height (put theta term)) TERM_HEIGHT_LIMIT in
    let n = nat_le (nameless_nodes (put theta term)) TERM_NODES_LIMIT in
    let f = nameless_types_fit [] (put theta term) in
    let two : (h && n) ≡ true = first_of_both (h && n) f within in
    both (nat_le (nameless_height term) TERM_HEIGHT_LIMIT && nat_le (nameless_nodes term) TERM_NODES_LIMIT) (nameless_types_fit [] term)
    (both (nat_le (nameless_height term) TERM_HEIGHT_LIMIT) (nat_le (nameless_nodes term) TERM_NODES_LIMIT)
    (lower (nameless_height term) (nameless_height (put theta term)) TERM_HEIGHT_LIMIT (height-put theta term) (first_of_both h n two))
    (lower (nameless_nodes term) (nameless_nodes (put theta term)) TERM_NODES_LIMIT (nodes-put theta term) (second_of_both h n two)))
    (types-put theta all_typed term [] ty tt typed (second_of_both (h && n) f within))

-- all terms of a rule

abbrev AreTyped : List Nameless → Type 0
AreTyped [] = Unit {0}
AreTyped (term ∷ terms) = HasType [] term bool_type × AreTyped terms

typed_members : (terms : List Nameless) → ((term : Nameless) → IsMember term terms → HasType [] term bool_type) → AreTyped terms
typed_members [] each = tt
typed_members (term ∷ terms) each = (each term (inl refl), typed_members terms (λ t m. each t (inr m)))

typed_within : (by : Replacements) → IsTyped (replacement by.terms) → (term : Nameless) → HasType [] term bool_type → nameless_within_limits (replaced by term) ≡ true
    → nameless_within_limits (instantiate_all by.types term) ≡ true
typed_within by all_typed term typed within =
    within-put (replacement by.terms) all_typed (instantiate_all by.types term) bool_type (instantiate-typed (type_instance_of by.types) term [] bool_type typed) within

all_typed_within : (by : Replacements) → IsTyped (replacement by.terms) → (terms : List Nameless) → AreTyped terms → list_all (λ term. nameless_within_limits (replaced by term)) terms ≡ true
    → list_all nameless_within_limits (map (instantiate_all by.types) terms) ≡ true
all_typed_within by all_typed [] typed all = refl
all_typed_within by all_typed (term ∷ terms) typed all =
    let p = nameless_within_limits (replaced by term) in
    let q = list_all (λ t. nameless_within_limits (replaced by t)) terms in
    both (nameless_within_limits (instantiate_all by.types term)) (list_all nameless_within_limits (map (instantiate_all by.types) terms))
    (typed_within by all_typed term typed.0 (first_of_both p q all)) (all_typed_within by all_typed terms typed.1 (second_of_both p q all))

all_mapped : (test : Nameless → Bool) (change : Nameless → Nameless) (terms : List Nameless) → list_all test (map change terms) ≡ list_all (λ term. test (change term)) terms
all_mapped test change [] = refl
all_mapped test change (term ∷ terms) = ap (λ b. test (change term) && b) (all_mapped test change terms)

all_joined : (test : Nameless → Bool) (xs ys : List Nameless) → list_all test xs ≡ true → list_all test ys ≡ true → list_all test (xs ++ ys) ≡ true
all_joined test [] ys one two = two
all_joined test (x ∷ xs) ys one two =
    both (test x) (list_all test (xs ++ ys)) (first_of_both (test x) (list_all test xs) one) (all_joined test xs ys (second_of_both (test x) (list_all test xs) one) two)

-- where the instances are within the limits, all that is made on the way to them is
pub way_within : (by : Replacements) → ((name : List ℕ) (ty : HolType) → HasType [] (replacement by.terms name ty) ty) → (terms : List Nameless)
    → ((term : Nameless) → IsMember term terms → HasType [] term bool_type) → list_all (λ term. nameless_within_limits (replaced by term)) terms ≡ true
    → list_all nameless_within_limits (map (instantiate_all by.types) terms ++ map (replaced by) terms) ≡ true
way_within by all_typed terms typed all =
    all_joined nameless_within_limits (map (instantiate_all by.types) terms) (map (replaced by) terms)
    (all_typed_within by all_typed terms (typed_members terms typed) all) (all_mapped nameless_within_limits (replaced by) terms ∙ all)
