-- Members of lists, and inclusion of lists as sets.
use Rattle.std.proofs.Common.{◌≡◌, ◌⊎◌, List, [], ◌∷◌, ◌++◌, map, Bool, true, false, ◌&&◌, ◌||◌, not, refl, sym, subst, inl, inr, if◌then◌else◌}
use Rattle.std.specs.List.{list_all}
use Rattle.hol_model.specs.Terms.Nameless.{Nameless, same_term}
use Rattle.hol_model.specs.Logic.Derivable.{IsMember, without}
use Rattle.hol_model.proofs.Tests.{same_term-Decides}
use Rattle.hol_model.proofs.Terms.Membership.{of_append, of_map, IsMember-append_left, IsMember-append_right, IsMember-map}
use Rattle.hol_model.proofs.Logic.Known.{of_without}
use Rattle.hol_model.specs.Derived.DerivedRules.{is_among}
use Rattle.hol_model.specs.Goals.Strength.{Includes}

-- joined lists

pub Includes-append : (a b c d : List Nameless) → Includes a b → Includes c d → Includes (a ++ c) (b ++ d)
Includes-append a b c d first second x member =
    elim (of_append x a c member) [ inl l ↦ IsMember-append_left x b d (first x l) | inr r ↦ IsMember-append_right x b d (second x r) ]

-- mapped lists

pub Includes-map : (f : Nameless → Nameless) (a b : List Nameless) → Includes a b → Includes (map f a) (map f b)
Includes-map f a b included y member =
    let found = of_map f y a member in
    subst (λ (z : Nameless). IsMember z (map f b)) (sym found.2) (IsMember-map f found.0 b (included found.0 found.1))

-- lists without a term

pub differs : (x term : Nameless) (xs : List Nameless) → IsMember x (without term xs) → same_term x term ≡ false
differs x term [] member = absurd member
differs x term (y ∷ xs) member = go (same_term y term) refl member (differs x term xs)
  where
    go : (test : Bool) → same_term y term ≡ test → IsMember x (if not test then y ∷ without term xs else without term xs) → (IsMember x (without term xs) → same_term x term ≡ false) →
        same_term x term ≡ false
    go true is member deeper = deeper member
    go false is (inl same) deeper = subst (λ (z : Nameless). same_term z term ≡ false) (sym same) is
    go false is (inr member) deeper = deeper member

pub in_without : (x term : Nameless) (xs : List Nameless) → IsMember x xs → same_term x term ≡ false → IsMember x (without term xs)
in_without x term [] member other = absurd member
in_without x term (y ∷ xs) member other = go (same_term y term) refl member (λ m. in_without x term xs m other)
  where
    go : (test : Bool) → same_term y term ≡ test → (x ≡ y) ⊎ IsMember x xs → (IsMember x xs → IsMember x (without term xs)) → IsMember x (if not test then y ∷ without term xs else without term xs)
    go true is (inl same) deeper = let wrong : same_term x term ≡ true = subst (λ (z : Nameless). same_term z term ≡ true) (sym same) is in cc
    go true is (inr member) deeper = deeper member
    go false is (inl same) deeper = inl same
    go false is (inr member) deeper = inr (deeper member)

pub Includes-without : (term : Nameless) (a b : List Nameless) → Includes a b → Includes (without term a) (without term b)
Includes-without term a b included x member =
    in_without x term b (included x (of_without x term a member)) (differs x term a member)

-- tests on every member

pub list_all-member : {A : Type 0} (test : A → Bool) (x : A) (xs : List A) → list_all test xs ≡ true → IsMember x xs → test x ≡ true
list_all-member {A = A} test x [] passed member = absurd member
list_all-member {A = A} test x (y ∷ xs) passed member = go (test y) refl passed member (list_all-member test x xs)
  where
    go : (answer : Bool) → test y ≡ answer → (answer && list_all test xs) ≡ true → (x ≡ y) ⊎ IsMember x xs → (list_all test xs ≡ true → IsMember x xs → test x ≡ true) → test x ≡ true
    go true is passed (inl same) deeper = subst (λ (z : A). test z ≡ true) (sym same) is
    go true is passed (inr member) deeper = deeper passed member
    go false is passed member deeper = cc

pub list_all-from : {A : Type 0} (test : A → Bool) (xs : List A) → ((x : A) → IsMember x xs → test x ≡ true) → list_all test xs ≡ true
list_all-from test [] each = refl
list_all-from test (y ∷ xs) each = rw (each y (inl refl)) (list_all-from test xs (λ x member. each x (inr member)))

pub list_all-fewer : (test : Nameless → Bool) (a b : List Nameless) → Includes a b → list_all test b ≡ true → list_all test a ≡ true
list_all-fewer test a b included passed = list_all-from test a (λ x member. list_all-member test x b passed (included x member))

-- the test for a member

pub is_among-member : (x : Nameless) (xs : List Nameless) → is_among x xs ≡ true → IsMember x xs
is_among-member x [] passed = cc
is_among-member x (y ∷ xs) passed = go (same_term x y) refl passed (is_among-member x xs)
  where
    go : (test : Bool) → same_term x y ≡ test → (test || is_among x xs) ≡ true → (is_among x xs ≡ true → IsMember x xs) → (x ≡ y) ⊎ IsMember x xs
    go true is passed deeper = inl ((same_term-Decides x y).0 is)
    go false is passed deeper = inr (deeper passed)

pub member-is_among : (x : Nameless) (xs : List Nameless) → IsMember x xs → is_among x xs ≡ true
member-is_among x [] member = absurd member
member-is_among x (y ∷ xs) (inl same) = rw ((same_term-Decides x y).1 same) refl
member-is_among x (y ∷ xs) (inr member) = go (same_term x y) (member-is_among x xs member)
  where
    go : (test : Bool) → is_among x xs ≡ true → (test || is_among x xs) ≡ true
    go true later = refl
    go false later = later

pub is_among-more : (x : Nameless) (a b : List Nameless) → Includes a b → is_among x a ≡ true → is_among x b ≡ true
is_among-more x a b included passed = member-is_among x b (included x (is_among-member x a passed))
