-- Parts of small terms are small, and what is made of small terms leaves room.
use Rattle.std.proofs.Common.{◌≡◌, ℕ, suc, ◌+◌, ◌≤◌, List, [], ◌∷◌, ◌++◌, length, Bool, true, false, ◌&&◌, refl, sym, ◌∙◌, ap, subst, inl, inr, Option, Some, None, arith, nat_le, if◌then◌else◌}
use Rattle.std.specs.List.{list_all}
use Rattle.std.specs.Str.{bytes_eq}
use Rattle.std.proofs.lemmas.Bool.{leb-true, le-leb}
use Rattle.hol_model.specs.Terms.HolType.{HolType, bool_type, function_type, type_nodes}
use Rattle.hol_model.specs.Terms.NamedTerm.{NamedTerm, variable, constant, combination, abstraction, type_of, same_variable, nodes, height, equation}
use Rattle.hol_model.specs.Terms.Nameless.{Nameless, free, const, bound, app, lam, HasType, nameless_type, image}
use Rattle.hol_model.specs.Terms.Measures.{nameless_height, nameless_nodes}
use Rattle.hol_model.specs.Terms.Substitution.{close_at, close, put, only}
use Rattle.hol_model.specs.Logic.Derivable.{IsMember, nameless_equation}
use Rattle.hol_model.specs.Logic.Theory.{equality_name, equality_type}
use Rattle.hol_model.specs.Logic.Logic.{and_name, forall_name, implies_name, binary}
use Rattle.hol_model.specs.Logic.NamedLogic.{Abstracted, false_term, implication, dest_conjunction, dest_forall}
use Rattle.hol_model.specs.Derived.DerivedRules.{is_roomy, is_roomy_type, has_roomy_types, ROOMY_HEIGHT, ROOMY_NODES, ROOMY_TYPE_NODES}
use Rattle.hol_model.specs.Rewrites.SmallTerms.{is_small, is_small_type, has_small_types, SMALL_HEIGHT, SMALL_NODES, SMALL_TYPE_NODES}
use Rattle.hol_model.proofs.Tests.{first_of_both, second_of_both, both, same_variable-type}
use Rattle.hol_model.proofs.Terms.Membership.{of_append}
use Rattle.hol_model.proofs.Terms.Typing.{nameless_type-is, close_at-typed}
use Rattle.hol_model.proofs.Terms.Images.{image-typed, image-abstraction, image-equation}
use Rattle.hol_model.proofs.Terms.Measures.{height-image, nodes-image}

-- what a small term has
pub record IsSmall (term : Nameless) : Type 0 where
  pub height : nameless_height term ≤ SMALL_HEIGHT
  pub nodes : nameless_nodes term ≤ SMALL_NODES
  pub types : has_small_types [] term ≡ true

pub small_has : (term : Nameless) → is_small term ≡ true → IsSmall term
small_has term small =
    let h = nat_le (nameless_height term) SMALL_HEIGHT in
    let n = nat_le (nameless_nodes term) SMALL_NODES in
    let two : (h && n) ≡ true = first_of_both (h && n) (has_small_types [] term) small in
    record { height = leb-true _ _ (first_of_both h n two); nodes = leb-true _ _ (second_of_both h n two); types = second_of_both (h && n) (has_small_types [] term) small }

pub has_small : (term : Nameless) → IsSmall term → is_small term ≡ true
has_small term has =
    both (nat_le (nameless_height term) SMALL_HEIGHT && nat_le (nameless_nodes term) SMALL_NODES) (has_small_types [] term)
    (both (nat_le (nameless_height term) SMALL_HEIGHT) (nat_le (nameless_nodes term) SMALL_NODES) (le-leb _ _ has.height) (le-leb _ _ has.nodes)) has.types

-- the parts of a combination

pub small_function : (f x : Nameless) → is_small (app f x) ≡ true → is_small f ≡ true
small_function f x small =
    let whole = small_has (app f x) small in
    let tall = whole.height in
    let many = whole.nodes in
    has_small f (record { height = omega arith; nodes = omega arith; types = first_of_both (has_small_types [] f) (has_small_types [] x) whole.types })

pub small_argument : (f x : Nameless) → is_small (app f x) ≡ true → is_small x ≡ true
small_argument f x small =
    let whole = small_has (app f x) small in
    let tall = whole.height in
    let many = whole.nodes in
    has_small x (record { height = omega arith; nodes = omega arith; types = second_of_both (has_small_types [] f) (has_small_types [] x) whole.types })

-- the sides of a conjunction

pub record AreSmallSides (left right : NamedTerm) : Type 0 where
  pub left_small : is_small (image left) ≡ true
  pub right_small : is_small (image right) ≡ true

same-sides : (one two : NamedTerm × NamedTerm) → Some one ≡ Some two → one ≡ two
same-sides one two same = cc

pub small_sides : (formula p q : NamedTerm) → dest_conjunction formula ≡ Some (p, q) → is_small (image formula) ≡ true → AreSmallSides p q
small_sides (combination (combination (constant other s) a) b) p q is small = go (bytes_eq other and_name) is
  where
    go : (test : Bool) → if◌then◌else◌ {A = Option (NamedTerm × NamedTerm)} test (Some (a, b)) None ≡ Some (p, q) → AreSmallSides p q
    go true same =
        let sides = same-sides (a, b) (p, q) same in
        let outer = app (const other s) (image a) in
        record {
          left_small = subst (λ (t : NamedTerm). is_small (image t) ≡ true) (ap (λ (t : NamedTerm × NamedTerm). t.0) sides)
              (small_argument (const other s) (image a) (small_function outer (image b) small));
          right_small = subst (λ (t : NamedTerm). is_small (image t) ≡ true) (ap (λ (t : NamedTerm × NamedTerm). t.1) sides) (small_argument outer (image b) small);
        }
    go false same = cc
small_sides (combination (combination (variable other s) a) b) p q is small = cc
small_sides (combination (combination (combination f x) a) b) p q is small = cc
small_sides (combination (combination (abstraction n s t) a) b) p q is small = cc
small_sides (combination (variable n s) b) p q is small = cc
small_sides (combination (constant n s) b) p q is small = cc
small_sides (combination (abstraction n s t) b) p q is small = cc
small_sides (variable n s) p q is small = cc
small_sides (constant n s) p q is small = cc
small_sides (abstraction n s t) p q is small = cc

-- the body of an abstraction

small_domain : (a b : HolType) → is_small_type (function_type a b) ≡ true → is_small_type a ≡ true
small_domain a b small =
    let whole : type_nodes (function_type a b) ≤ SMALL_TYPE_NODES = leb-true _ _ small in
    let part : type_nodes a ≤ SMALL_TYPE_NODES = omega arith in
    le-leb _ _ part

types-close : (name : List ℕ) (a : HolType) (term : Nameless) (binders : List HolType) (ty : HolType) → HasType binders term ty → is_small_type a ≡ true
    → has_small_types (binders ++ a ∷ []) (close_at (length binders) name a term) ≡ true → has_small_types binders term ≡ true
types-close name a (free other s) binders ty typed all small = go (same_variable name a other s) refl small
  where
    go : (test : Bool) → same_variable name a other s ≡ test → has_small_types (binders ++ a ∷ []) (if test then bound (length binders) else free other s) ≡ true → is_small_type s ≡ true
    go true passed small = ap is_small_type (sym (same_variable-type name other a s passed)) ∙ all
    go false passed small = small
types-close name a (const other s) binders ty typed all small = small
types-close name a (bound index) binders ty typed all small = refl
types-close name a (app f x) binders ty typed all small =
    let p = has_small_types (binders ++ a ∷ []) (close_at (length binders) name a f) in
    let q = has_small_types (binders ++ a ∷ []) (close_at (length binders) name a x) in
    both (has_small_types binders f) (has_small_types binders x)
    (types-close name a f binders (function_type typed.0 ty) typed.1 all (first_of_both p q small))
    (types-close name a x binders typed.0 typed.2 all (second_of_both p q small))
types-close name a (lam s body) binders ty typed all small =
    let closed = close_at (suc (length binders)) name a body in
    let shape = nameless_type (s ∷ binders ++ a ∷ []) closed in
    let p = has_small_types (s ∷ binders ++ a ∷ []) closed in
    let q = is_small_type (function_type s shape) in
    let is : shape ≡ typed.0 = nameless_type-is closed (s ∷ binders ++ a ∷ []) typed.0 (close_at-typed name a body (s ∷ binders) typed.0 typed.1) in
    let was : nameless_type (s ∷ binders) body ≡ typed.0 = nameless_type-is body (s ∷ binders) typed.0 typed.1 in
    both (has_small_types (s ∷ binders) body) (is_small_type (function_type s (nameless_type (s ∷ binders) body)))
    (types-close name a body (s ∷ binders) typed.0 typed.1 all (first_of_both p q small))
    (ap (λ c. is_small_type (function_type s c)) (was ∙ sym is) ∙ second_of_both p q small)

-- the body of an abstraction, and the type of its variable
pub record IsSmallBody (ty : HolType) (body : NamedTerm) : Type 0 where
  pub type_small : is_small_type ty ≡ true
  pub body_small : is_small (image body) ≡ true

pub small_body : (name : List ℕ) (ty s : HolType) (body : NamedTerm) → type_of body ≡ Some s → is_small (image (abstraction name ty body)) ≡ true → IsSmallBody ty body
small_body name ty s body typed small =
    let whole = small_has (image (abstraction name ty body)) small in
    let tall : nameless_height (image (abstraction name ty body)) ≤ SMALL_HEIGHT = whole.height in
    let many : nameless_nodes (image (abstraction name ty body)) ≤ SMALL_NODES = whole.nodes in
    let height_is : nameless_height (image (abstraction name ty body)) ≡ height body + 1 = height-image [] (abstraction name ty body) in
    let nodes_is : nameless_nodes (image (abstraction name ty body)) ≡ nodes body + 1 = nodes-image [] (abstraction name ty body) in
    let body_height : nameless_height (image body) ≡ height body = height-image [] body in
    let body_nodes : nameless_nodes (image body) ≡ nodes body = nodes-image [] body in
    let closed = close name ty (image body) in
    let types : has_small_types [] (lam ty closed) ≡ true = ap (has_small_types []) (sym (image-abstraction name ty body)) ∙ whole.types in
    let shape = nameless_type (ty ∷ []) closed in
    let p = has_small_types (ty ∷ []) closed in
    let type_small = small_domain ty shape (second_of_both p (is_small_type (function_type ty shape)) types) in
    record {
      type_small = type_small;
      body_small = has_small (image body) (record {
        height = omega arith;
        nodes = omega arith;
        types = types-close name ty (image body) [] s (image-typed body s typed) type_small (first_of_both p (is_small_type (function_type ty shape)) types);
      });
    }

-- a variable for a variable

put-height : (name fresh : List ℕ) (ty : HolType) (term : Nameless) → nameless_height (put (only name ty (free fresh ty)) term) ≡ nameless_height term
put-height name fresh ty (free other s) = go (same_variable name ty other s)
  where
    go : (test : Bool) → nameless_height (if test then free fresh ty else free other s) ≡ nameless_height (free other s)
    go true = refl
    go false = refl
put-height name fresh ty (const other s) = refl
put-height name fresh ty (bound index) = refl
put-height name fresh ty (app f x) = rw (put-height name fresh ty f, put-height name fresh ty x) refl
put-height name fresh ty (lam s body) = rw (put-height name fresh ty body) refl

pub put-nodes : (name fresh : List ℕ) (ty : HolType) (term : Nameless) → nameless_nodes (put (only name ty (free fresh ty)) term) ≡ nameless_nodes term
put-nodes name fresh ty (free other s) = go (same_variable name ty other s)
  where
    go : (test : Bool) → nameless_nodes (if test then free fresh ty else free other s) ≡ nameless_nodes (free other s)
    go true = refl
    go false = refl
put-nodes name fresh ty (const other s) = refl
put-nodes name fresh ty (bound index) = refl
put-nodes name fresh ty (app f x) = rw (put-nodes name fresh ty f, put-nodes name fresh ty x) refl
put-nodes name fresh ty (lam s body) = rw (put-nodes name fresh ty body) refl

put-type : (name fresh : List ℕ) (ty : HolType) (term : Nameless) (binders : List HolType) → nameless_type binders (put (only name ty (free fresh ty)) term) ≡ nameless_type binders term
put-type name fresh ty (free other s) binders = go (same_variable name ty other s) refl
  where
    go : (test : Bool) → same_variable name ty other s ≡ test → nameless_type binders (if test then free fresh ty else free other s) ≡ s
    go true is = same_variable-type name other ty s is
    go false is = refl
put-type name fresh ty (const other s) binders = refl
put-type name fresh ty (bound index) binders = refl
put-type name fresh ty (app f x) binders = rw (put-type name fresh ty f binders) refl
put-type name fresh ty (lam s body) binders = rw (put-type name fresh ty body (s ∷ binders)) refl

put-types : (name fresh : List ℕ) (ty : HolType) (term : Nameless) (binders : List HolType) → has_small_types binders (put (only name ty (free fresh ty)) term) ≡ has_small_types binders term
put-types name fresh ty (free other s) binders = go (same_variable name ty other s) refl
  where
    go : (test : Bool) → same_variable name ty other s ≡ test → has_small_types binders (if test then free fresh ty else free other s) ≡ is_small_type s
    go true is = ap is_small_type (same_variable-type name other ty s is)
    go false is = refl
put-types name fresh ty (const other s) binders = refl
put-types name fresh ty (bound index) binders = refl
put-types name fresh ty (app f x) binders = rw (put-types name fresh ty f binders, put-types name fresh ty x binders) refl
put-types name fresh ty (lam s body) binders = rw (put-types name fresh ty body (s ∷ binders), put-type name fresh ty body (s ∷ binders)) refl

pub put-small : (name fresh : List ℕ) (ty : HolType) (term : Nameless) → is_small term ≡ true → is_small (put (only name ty (free fresh ty)) term) ≡ true
put-small name fresh ty term small = rw (put-height name fresh ty term, put-nodes name fresh ty term, put-types name fresh ty term []) small

-- the parts of `!x. p`

some-same : (one two : Abstracted) → Some one ≡ Some two → one ≡ two
some-same one two same = cc

pub small_bound : (formula : NamedTerm) (abstracted : Abstracted) (s : HolType) → dest_forall formula ≡ Some abstracted → type_of abstracted.body ≡ Some s
    → is_small (image formula) ≡ true → IsSmallBody abstracted.ty abstracted.body
small_bound (combination (constant other r) (abstraction name ty body)) abstracted s is typed small = go (bytes_eq other forall_name) is
  where
    go : (test : Bool) → (if test then Some (record { name = name; ty = ty; body = body }) else None) ≡ Some abstracted → IsSmallBody abstracted.ty abstracted.body
    go true same =
        let here : Abstracted = record { name = name; ty = ty; body = body } in
        let e : here ≡ abstracted = some-same here abstracted same in
        let inner : is_small (image (abstraction name ty body)) ≡ true = small_argument (const other r) (image (abstraction name ty body)) small in
        let inner_typed : type_of body ≡ Some s = ap (λ (b : Abstracted). type_of b.body) e ∙ typed in
        subst (λ (b : Abstracted). IsSmallBody b.ty b.body) e (small_body name ty s body inner_typed inner)
    go false same = cc
small_bound (combination (constant other r) (variable n t)) abstracted s is typed small = cc
small_bound (combination (constant other r) (constant n t)) abstracted s is typed small = cc
small_bound (combination (constant other r) (combination f x)) abstracted s is typed small = cc
small_bound (combination (variable n r) b) abstracted s is typed small = cc
small_bound (combination (combination f x) b) abstracted s is typed small = cc
small_bound (combination (abstraction n r t) b) abstracted s is typed small = cc
small_bound (variable n r) abstracted s is typed small = cc
small_bound (constant n r) abstracted s is typed small = cc
small_bound (abstraction n r t) abstracted s is typed small = cc

-- room

roomy_type : (ty : HolType) → is_small_type ty ≡ true → is_roomy_type ty ≡ true
roomy_type ty small =
    let few : type_nodes ty ≤ SMALL_TYPE_NODES = leb-true _ _ small in
    let fewer : type_nodes ty ≤ ROOMY_TYPE_NODES = omega arith in
    le-leb _ _ fewer

types-roomy : (binders : List HolType) (term : Nameless) → has_small_types binders term ≡ true → has_roomy_types binders term ≡ true
types-roomy binders (free name ty) small = roomy_type ty small
types-roomy binders (const name ty) small = roomy_type ty small
types-roomy binders (bound index) small = refl
types-roomy binders (app f x) small =
    both (has_roomy_types binders f) (has_roomy_types binders x)
    (types-roomy binders f (first_of_both (has_small_types binders f) (has_small_types binders x) small))
    (types-roomy binders x (second_of_both (has_small_types binders f) (has_small_types binders x) small))
types-roomy binders (lam ty body) small =
    let whole = function_type ty (nameless_type (ty ∷ binders) body) in
    both (has_roomy_types (ty ∷ binders) body) (is_roomy_type whole)
    (types-roomy (ty ∷ binders) body (first_of_both (has_small_types (ty ∷ binders) body) (is_small_type whole) small))
    (roomy_type whole (second_of_both (has_small_types (ty ∷ binders) body) (is_small_type whole) small))

has_roomy : (term : Nameless) → nameless_height term ≤ ROOMY_HEIGHT → nameless_nodes term ≤ ROOMY_NODES → has_roomy_types [] term ≡ true → is_roomy term ≡ true
has_roomy term tall many types =
    both (nat_le (nameless_height term) ROOMY_HEIGHT && nat_le (nameless_nodes term) ROOMY_NODES) (has_roomy_types [] term)
    (both (nat_le (nameless_height term) ROOMY_HEIGHT) (nat_le (nameless_nodes term) ROOMY_NODES) (le-leb _ _ tall) (le-leb _ _ many)) types

pub small_roomy : (term : Nameless) → is_small term ≡ true → is_roomy term ≡ true
small_roomy term small =
    let has = small_has term small in
    let tall = has.height in
    let many = has.nodes in
    has_roomy term (omega arith) (omega arith) (types-roomy [] term has.types)

-- two small terms under a binary constant
pub joined_roomy : (name : List ℕ) (ty : HolType) (x y : Nameless) → is_roomy_type ty ≡ true → is_small x ≡ true → is_small y ≡ true → is_roomy (app (app (const name ty) x) y) ≡ true
joined_roomy name ty x y few small_x small_y =
    let one = small_has x small_x in
    let two = small_has y small_y in
    let tall_x = one.height in
    let tall_y = two.height in
    let many_x = one.nodes in
    let many_y = two.nodes in
    has_roomy (app (app (const name ty) x) y) (omega arith) (omega arith)
    (both (is_roomy_type ty && has_roomy_types [] x) (has_roomy_types [] y) (both (is_roomy_type ty) (has_roomy_types [] x) few (types-roomy [] x one.types)) (types-roomy [] y two.types))

pub implication_roomy : (p : NamedTerm) → is_small (image p) ≡ true → is_roomy (image (implication p false_term)) ≡ true
implication_roomy p small = joined_roomy implies_name binary (image p) (image false_term) refl small refl

pub equivalence_roomy : (p q : NamedTerm) → type_of p ≡ Some bool_type → is_small (image p) ≡ true → is_small (image q) ≡ true → is_roomy (image (equation p q)) ≡ true
equivalence_roomy p q typed small_p small_q = ap is_roomy (image-equation p q bool_type typed) ∙ joined_roomy equality_name (equality_type bool_type) (image p) (image q) refl small_p small_q

pub variable_roomy : (name : List ℕ) (ty : HolType) → is_small_type ty ≡ true → is_roomy (free name ty) ≡ true
variable_roomy name ty small = has_roomy (free name ty) (omega arith) (omega arith) (roomy_type ty small)

pub body_roomy : (body : NamedTerm) → is_small (image body) ≡ true → is_roomy (nameless_equation bool_type (image body) (image body)) ≡ true
body_roomy body small = joined_roomy equality_name (equality_type bool_type) (image body) (image body) refl small small

-- lists

abbrev pub AreRoomy : List Nameless → Type 0
AreRoomy terms = (term : Nameless) → IsMember term terms → is_roomy term ≡ true

pub roomy_all : (terms : List Nameless) → AreRoomy terms → list_all is_roomy terms ≡ true
roomy_all [] each = refl
roomy_all (term ∷ terms) each = both (is_roomy term) (list_all is_roomy terms) (each term (inl refl)) (roomy_all terms (λ t m. each t (inr m)))

pub roomy_append : (xs ys : List Nameless) → AreRoomy xs → AreRoomy ys → AreRoomy (xs ++ ys)
roomy_append xs ys one two term member = elim (of_append term xs ys member) [ inl m ↦ one term m | inr m ↦ two term m ]

pub roomy_more : (x : Nameless) (xs : List Nameless) → is_roomy x ≡ true → AreRoomy xs → AreRoomy (x ∷ xs)
roomy_more x xs one rest term (inl e) = ap is_roomy e ∙ one
roomy_more x xs one rest term (inr m) = rest term m

pub small_member : (terms : List Nameless) (term : Nameless) → list_all is_small terms ≡ true → IsMember term terms → is_small term ≡ true
small_member [] term all member = absurd member
small_member (x ∷ terms) term all (inl e) = ap is_small e ∙ first_of_both (is_small x) (list_all is_small terms) all
small_member (x ∷ terms) term all (inr m) = small_member terms term (second_of_both (is_small x) (list_all is_small terms) all) m

pub small_all : (terms : List Nameless) → ((term : Nameless) → IsMember term terms → is_small term ≡ true) → list_all is_small terms ≡ true
small_all [] each = refl
small_all (term ∷ terms) each = both (is_small term) (list_all is_small terms) (each term (inl refl)) (small_all terms (λ t m. each t (inr m)))

pub roomy_small : (terms : List Nameless) → list_all is_small terms ≡ true → AreRoomy terms
roomy_small terms all term member = small_roomy term (small_member terms term all member)
