-- Ascending lists of places: two with the same members are one.
use Rattle.std.proofs.Common.{◌≡◌, inl, inr, ℕ, zero, suc, ◌+◌, ◌<◌, ◌≤◌, List, [], ◌∷◌, ◌++◌, Bool, true, false, refl, sym, ◌∙◌, ap, arith, length, drop, append_assoc, if◌then◌else◌}
use Rattle.std.proofs.lemmas.List.{append-nil, drop_all}
use Rattle.std.specs.Prelude.{slice_index_or, filter}
use Rattle.std.specs.List.{Contains}
use Rattle.std.specs.List.Sorted.{IsStrictlySortedBy}
use Rattle.std.specs.Ordering.{nat_cmp}
use Rattle.std.proofs.lemmas.Map.Keys.{below_from_sorted, sorted_tail}
use Rattle.hol_model.specs.Logic.Derivable.{IsMember}
use Rattle.hol_model.specs.Rewrites.Places.{places_from, places_where, passes}

abbrev pub Rising : ℕ → List ℕ → Type 0
Rising low [] = Unit {0}
Rising low (x ∷ xs) = (low ≤ x) × Rising (suc x) xs

rising_lower : (low high : ℕ) (xs : List ℕ) → low ≤ high → Rising high xs → Rising low xs
rising_lower low high [] le rising = tt
rising_lower low high (x ∷ xs) le rising = let above : high ≤ x = rising.0 in (omega arith, rising.1)

pub above_low : (low : ℕ) (xs : List ℕ) (n : ℕ) → Rising low xs → IsMember n xs → low ≤ n
above_low low [] n rising member = absurd member
above_low low (x ∷ xs) n rising (inl same) = let above : low ≤ x = rising.0 in omega arith
above_low low (x ∷ xs) n rising (inr member) = let above : low ≤ x = rising.0 in let later : suc x ≤ n = above_low (suc x) xs n rising.1 member in omega arith

first_same : (low x y : ℕ) (xs ys : List ℕ) → Rising low (x ∷ xs) → Rising low (y ∷ ys) → IsMember x (y ∷ ys) → IsMember y (x ∷ xs) → x ≡ y
first_same low x y xs ys first second (inl same) back = same
first_same low x y xs ys first second (inr member) (inl same) = sym same
first_same low x y xs ys first second (inr member) (inr back) =
    let later : suc y ≤ x = above_low (suc y) ys x second.1 member in
    let sooner : suc x ≤ y = above_low (suc x) xs y first.1 back in
    omega arith

rest_member : (x y n : ℕ) (xs ys : List ℕ) → Rising (suc x) xs → x ≡ y → IsMember n xs → IsMember n (y ∷ ys) → IsMember n ys
rest_member x y n xs ys rising same member (inl first) = let later : suc x ≤ n = above_low (suc x) xs n rising member in absurd (omega arith)
rest_member x y n xs ys rising same member (inr rest) = rest

pub one_list : (low : ℕ) (xs ys : List ℕ) → Rising low xs → Rising low ys → ((n : ℕ) → IsMember n xs → IsMember n ys) → ((n : ℕ) → IsMember n ys → IsMember n xs) → xs ≡ ys
one_list low [] [] first second to back = refl
one_list low [] (y ∷ ys) first second to back = absurd (back y (inl refl))
one_list low (x ∷ xs) [] first second to back = absurd (to x (inl refl))
one_list low (x ∷ xs) (y ∷ ys) first second to back =
    let same : x ≡ y = first_same low x y xs ys first second (to x (inl refl)) (back y (inl refl)) in
    let rising : Rising (suc x) ys = rising_lower (suc x) (suc y) ys (omega arith) second.1 in
    let rest : xs ≡ ys = one_list (suc x) xs ys first.1 rising
    (λ n member. rest_member x y n xs ys first.1 same member (to n (inr member)))
    (λ n member. rest_member y x n ys xs second.1 (sym same) member (back n (inr member))) in
    cc

-- what passes a test, of an ascending list

pub rising_filter : (test : ℕ → Bool) (low : ℕ) (xs : List ℕ) → Rising low xs → Rising low (filter test xs)
rising_filter test low [] rising = tt
rising_filter test low (x ∷ xs) rising = go (test x) (rising_filter test (suc x) xs rising.1)
  where
    above : low ≤ x
    above = rising.0

    go : (passed : Bool) → Rising (suc x) (filter test xs) → Rising low (if passed then x ∷ filter test xs else filter test xs)
    go true deeper = (above, deeper)
    go false deeper = rising_lower low (suc x) (filter test xs) (omega arith) deeper

pub of_filter : (test : ℕ → Bool) (n : ℕ) (xs : List ℕ) → IsMember n (filter test xs) → test n ≡ true
of_filter test n [] member = absurd member
of_filter test n (x ∷ xs) member = go (test x) refl (of_filter test n xs) member
  where
    go : (passed : Bool) → test x ≡ passed → (IsMember n (filter test xs) → test n ≡ true) → IsMember n (if passed then x ∷ filter test xs else filter test xs) → test n ≡ true
    go true is deeper (inl same) = ap test same ∙ is
    go true is deeper (inr member) = deeper member
    go false is deeper member = deeper member

pub in_filter : (test : ℕ → Bool) (n : ℕ) (xs : List ℕ) → test n ≡ true → IsMember n xs → IsMember n (filter test xs)
in_filter test n [] passed member = absurd member
in_filter test n (x ∷ xs) passed (inl same) = go (test x) (ap test (sym same) ∙ passed)
  where
    go : (p : Bool) → p ≡ true → IsMember n (if p then x ∷ filter test xs else filter test xs)
    go true is = inl same
    go false is = cc
in_filter test n (x ∷ xs) passed (inr member) = go (test x) (in_filter test n xs passed member)
  where
    go : (p : Bool) → IsMember n (filter test xs) → IsMember n (if p then x ∷ filter test xs else filter test xs)
    go true deeper = inr deeper
    go false deeper = deeper

-- the places where a test passes

pub rising_places : {A : Type 0} (test : A → Bool) (low : ℕ) (xs : List A) → Rising low (places_from low test xs)
rising_places test low [] = tt
rising_places test low (x ∷ xs) = go (test x) (rising_places test (suc low) xs)
  where
    go : (passed : Bool) → Rising (suc low) (places_from (suc low) test xs) → Rising low (if passed then low ∷ places_from (suc low) test xs else places_from (suc low) test xs)
    go true deeper = (omega arith, deeper)
    go false deeper = rising_lower low (suc low) (places_from (suc low) test xs) (omega arith) deeper

of_places : {A : Type 0} (test : A → Bool) (low n : ℕ) (xs : List A) → IsMember n (places_from low test xs) → (place : ℕ) × (n ≡ low + place) × (passes test xs place ≡ true)
of_places test low n [] member = absurd member
of_places {A} test low n (x ∷ xs) member = go (test x) refl (of_places test (suc low) n xs) member
  where
    go : (passed : Bool) → test x ≡ passed
        → (IsMember n (places_from (suc low) test xs) → (place : ℕ) × (n ≡ suc low + place) × (passes test xs place ≡ true))
        → IsMember n (if passed then low ∷ places_from (suc low) test xs else places_from (suc low) test xs)
        → (place : ℕ) × (n ≡ low + place) × (passes test (x ∷ xs) place ≡ true)
    go true is deeper (inl same) = (0, omega arith, is)
    go true is deeper (inr member) = let known = deeper member in let at : n ≡ suc low + known.0 = known.1 in (suc known.0, omega arith, known.2)
    go false is deeper member = let known = deeper member in let at : n ≡ suc low + known.0 = known.1 in (suc known.0, omega arith, known.2)

pub in_places : {A : Type 0} (test : A → Bool) (low place n : ℕ) (xs : List A) → n ≡ low + place → passes test xs place ≡ true → IsMember n (places_from low test xs)
in_places test low place n [] at passed = cc
in_places {A} test low zero n (x ∷ xs) at passed = go (test x) passed
  where
    go : (p : Bool) → p ≡ true → IsMember n (if p then low ∷ places_from (suc low) test xs else places_from (suc low) test xs)
    go true is = inl (omega arith)
    go false is = cc
in_places {A} test low (suc place) n (x ∷ xs) at passed = go (test x) (in_places test (suc low) place n xs (omega arith) passed)
  where
    go : (p : Bool) → IsMember n (places_from (suc low) test xs) → IsMember n (if p then low ∷ places_from (suc low) test xs else places_from (suc low) test xs)
    go true deeper = inr deeper
    go false deeper = deeper

-- an ascending list that has each place where the test passes
pub places_kept : {A : Type 0} (test : A → Bool) (xs : List A) (places : List ℕ) → Rising 0 places → ((n : ℕ) → passes test xs n ≡ true → IsMember n places)
    → filter (passes test xs) places ≡ places_where test xs
places_kept {A} test xs places rising complete =
    one_list 0 (filter (passes test xs) places) (places_where test xs) (rising_filter (passes test xs) 0 places rising) (rising_places test 0 xs)
    (λ n member. in_places test 0 n n xs (omega arith) (of_filter (passes test xs) n places member))
    (λ n member. back n (of_places test 0 n xs member))
  where
    back : (n : ℕ) → (place : ℕ) × (n ≡ 0 + place) × (passes test xs place ≡ true) → IsMember n (filter (passes test xs) places)
    back n known =
        let at : n ≡ 0 + known.0 = known.1 in
        let same : known.0 ≡ n = omega arith in
        let passed : passes test xs n ≡ true = ap (passes test xs) (sym same) ∙ known.2 in
        in_filter (passes test xs) n places passed (complete n passed)

-- from a place on, that place is the first, where it passes
places_on : {A : Type 0} (test : A → Bool) (xs : List A) (low place : ℕ) → place < length xs
    → places_from low test (drop place xs) ≡ (if passes test xs place then low ∷ places_from (suc low) test (drop (suc place) xs) else places_from (suc low) test (drop (suc place) xs))
places_on test [] low place within = absurd (omega arith)
places_on test (x ∷ xs) low zero within = refl
places_on test (x ∷ xs) low (suc place) within = places_on test xs low place (omega arith)

-- what is kept of the places so far, and what is left to be kept, where one more place is tried
pub places_next : {A : Type 0} (test : A → Bool) (xs : List A) (place next : ℕ) (kept new : List ℕ) → place < length xs → next ≡ suc place
    → kept ++ places_from place test (drop place xs) ≡ places_where test xs → passes test xs place ≡ true → new ≡ kept ++ place ∷ []
    → new ++ places_from next test (drop next xs) ≡ places_where test xs
places_next test xs place next kept new within after so_far passed pushed =
    rw (after, pushed)
    (append_assoc kept (place ∷ []) (places_from (suc place) test (drop (suc place) xs))
    ∙ (ap (λ rest. kept ++ rest)
    (sym (places_on test xs place place within
    ∙ ap (λ p. if p then place ∷ places_from (suc place) test (drop (suc place) xs) else places_from (suc place) test (drop (suc place) xs)) passed))
    ∙ so_far))

pub places_skip : {A : Type 0} (test : A → Bool) (xs : List A) (place next : ℕ) (kept : List ℕ) → place < length xs → next ≡ suc place
    → kept ++ places_from place test (drop place xs) ≡ places_where test xs → passes test xs place ≡ false → kept ++ places_from next test (drop next xs) ≡ places_where test xs
places_skip test xs place next kept within after so_far passed =
    rw after
    (ap (λ rest. kept ++ rest)
    (sym (places_on test xs place place within
    ∙ ap (λ p. if p then place ∷ places_from (suc place) test (drop (suc place) xs) else places_from (suc place) test (drop (suc place) xs)) passed))
    ∙ so_far)

pub places_all : {A : Type 0} (test : A → Bool) (xs : List A) (place : ℕ) (kept : List ℕ) → length xs ≤ place
    → kept ++ places_from place test (drop place xs) ≡ places_where test xs → kept ≡ places_where test xs
places_all {A} test xs place kept past so_far = sym (append-nil kept) ∙ (ap (λ (rest : List A). kept ++ places_from place test rest) (sym (drop_all place xs past)) ∙ so_far)

-- sorted, each place once
rising_tail : (x : ℕ) (xs : List ℕ) → IsStrictlySortedBy nat_cmp (x ∷ xs) → Rising (suc x) xs
rising_tail x [] sorted = tt
rising_tail x (y ∷ ys) sorted =
    let first : x < y = below_from_sorted (x ∷ y ∷ ys) 0 1 0 sorted (omega arith) (omega arith) in
    (omega arith, rising_tail y ys (sorted_tail nat_cmp x (y ∷ ys) sorted))

pub rising_sorted : (xs : List ℕ) → IsStrictlySortedBy nat_cmp xs → Rising 0 xs
rising_sorted [] sorted = tt
rising_sorted (x ∷ xs) sorted = (omega arith, rising_tail x xs sorted)

-- the two ways to say that a list has an element
pub member_contains : (xs : List ℕ) (n : ℕ) → IsMember n xs → Contains xs n
member_contains [] n member = absurd member
member_contains (x ∷ xs) n (inl same) = (0, omega arith, sym same)
member_contains (x ∷ xs) n (inr member) = let known = member_contains xs n member in let within : known.0 < length xs = known.1 in (suc known.0, omega arith, known.2)

contained : (xs : List ℕ) (n place : ℕ) → place < length xs → slice_index_or xs place n ≡ n → IsMember n xs
contained [] n place within is = absurd (omega arith)
contained (x ∷ xs) n zero within is = inl (sym is)
contained (x ∷ xs) n (suc place) within is = inr (contained xs n place (omega arith) is)

pub contains_member : (xs : List ℕ) (n : ℕ) → Contains xs n → IsMember n xs
contains_member xs n known = contained xs n known.0 known.1 known.2
