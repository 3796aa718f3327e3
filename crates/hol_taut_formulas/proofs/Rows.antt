-- Searches through rows.
use Rattle.std.proofs.Common.{◌≡◌, ℕ, zero, suc, ◌<◌, ◌≤◌, ◌+◌, ◌-◌, ◌⊎◌, List, [], ◌∷◌, ◌++◌, Bool, true}
use Rattle.std.proofs.Common.{false, Option, Some, None, map, cond, length, refl, sym, ◌∙◌, ap, ap₂, arith, append_assoc, inl, inr}
use Rattle.std.proofs.lemmas.Bool.{cases_lt}
use Rattle.std.specs.Option.{option_map, option_or, is_some}
use Rattle.std.proofs.lemmas.List.{length_push}
use Rattle.std.specs.List.{find, range_with_len}
use Rattle.std.proofs.lemmas.List.Folds.{find-append}
use Rattle.hol_model.specs.Propositional.Tautologies.{rows}

pub find-map : {A B : Type 0} (p : B → Bool) (f : A → B) (xs : List A) → find p (map f xs) ≡ option_map f (find (λ x. p (f x)) xs)
find-map p f [] = refl
find-map p f (x ∷ xs) = by (p (f x)) (find-map p f xs)
  where
    by : (test : Bool) → find p (map f xs) ≡ option_map f (find (λ x. p (f x)) xs) → cond test (Some (f x)) (find p (map f xs)) ≡ option_map f (cond test (Some x) (find (λ x. p (f x)) xs))
    by true same = refl
    by false same = same

option_map-or : {A B : Type 0} (f : A → B) (x y : Option A) → option_map f (option_or x y) ≡ option_or (option_map f x) (option_map f y)
option_map-or f (Some x) y = refl
option_map-or f None y = refl

pub option_map-twice : {A B C : Type 0} (g : B → C) (f : A → B) (x : Option A) → option_map g (option_map f x) ≡ option_map (λ x. g (f x)) x
option_map-twice g f (Some x) = refl
option_map-twice g f None = refl

-- the first row of which the test holds, among those that begin with these values, and so many more
abbrev pub first_after : (List Bool → Bool) → List Bool → ℕ → Option (List Bool)
first_after test values n = option_map (λ rest. values ++ rest) (find (λ rest. test (values ++ rest)) (rows n))

with_value : (test : List Bool → Bool) (values : List Bool) (value : Bool) (n : ℕ)
    → option_map (λ rest. values ++ rest) (find (λ rest. test (values ++ rest)) (map (λ rest. value ∷ rest) (rows n))) ≡ first_after test (values ++ value ∷ []) n
with_value test values value n =
    ap (λ o. option_map (λ rest. values ++ rest) o) (find-map (λ rest. test (values ++ rest)) (λ rest. value ∷ rest) (rows n))
    ∙ option_map-twice (λ rest. values ++ rest) (λ rest. value ∷ rest) (find (λ rest. test (values ++ value ∷ rest)) (rows n))
    ∙ λ i. option_map (λ rest. same rest i) (find (λ rest. test (same rest i)) (rows n))
  where
    same : (rest : List Bool) → values ++ value ∷ rest ≡ (values ++ value ∷ []) ++ rest
    same rest = sym (append_assoc values (value ∷ []) rest)

pub first_after-suc : (test : List Bool → Bool) (values : List Bool) (n : ℕ)
    → first_after test values (suc n) ≡ option_or (first_after test (values ++ true ∷ []) n) (first_after test (values ++ false ∷ []) n)
first_after-suc test values n =
    ap (λ o. option_map (λ rest. values ++ rest) o) (find-append (λ rest. test (values ++ rest)) (map (λ rest. true ∷ rest) (rows n)) (map (λ rest. false ∷ rest) (rows n)))
    ∙ option_map-or (λ rest. values ++ rest) (find (λ rest. test (values ++ rest)) (map (λ rest. true ∷ rest) (rows n))) (find (λ rest. test (values ++ rest)) (map (λ rest. false ∷ rest) (rows n)))
    ∙ ap₂ (λ x y. option_or x y) (with_value test values true n) (with_value test values false n)

-- ---- numbers in order

pub find-none : (p : ℕ → Bool) (a m : ℕ) → ((i : ℕ) → i < a + m → p i ≡ false) → find p (range_with_len a m) ≡ None
find-none p a zero never = refl
find-none p a (suc m) never = ap (λ b. cond b (Some a) (find p (range_with_len (a + 1) m))) (never a (omega arith)) ∙ find-none p (a + 1) m (λ i within. never i (omega arith))

pub find-first : (p : ℕ → Bool) (a m z : ℕ) → a ≤ z → z < a + m → p z ≡ true → ((i : ℕ) → i < z → p i ≡ false) → find p (range_with_len a m) ≡ Some z
find-first p a zero z from within holds never = absurd (omega arith)
find-first p a (suc m) z from within holds never = go (cases_lt a z) (λ later. find-first p (a + 1) m z later (omega arith) holds never)
  where
    go : (a < z) ⊎ (z ≤ a) → (a + 1 ≤ z → find p (range_with_len (a + 1) m) ≡ Some z) → find p (range_with_len a (suc m)) ≡ Some z
    go (inr past) next = let same : a ≡ z = omega arith in ap (λ b. cond b (Some a) (find p (range_with_len (a + 1) m))) (ap p same ∙ holds) ∙ ap (λ n. Some n) same
    go (inl later) next = ap (λ b. cond b (Some a) (find p (range_with_len (a + 1) m))) (never a (omega arith)) ∙ next (omega arith)

-- ---- a search by the next value

split : (test : List Bool → Bool) (row : List Bool) (len : ℕ) → length row < len
    → first_after test row (len - length row) ≡ option_or (first_after test (row ++ true ∷ []) (len - length (row ++ true ∷ [])))
    (first_after test (row ++ false ∷ []) (len - length (row ++ false ∷ [])))
split test row len less =
    let n : len - length row ≡ suc (len - length row - 1) = omega arith in
    let with_true : len - length row - 1 ≡ len - length (row ++ true ∷ []) = omega (arith, length_push row true) in
    let with_false : len - length row - 1 ≡ len - length (row ++ false ∷ []) = omega (arith, length_push row false) in
    ap (λ n. first_after test row n) n
    ∙ first_after-suc test row (len - length row - 1)
    ∙ ap₂ (λ m n. option_or (first_after test (row ++ true ∷ []) m) (first_after test (row ++ false ∷ []) n)) with_true with_false

pub found_with_true : {A : Type 0} (list_of : A → List Bool) (test : List Bool → Bool) (row with_true : List Bool) (len : ℕ) (found : Option A)
    → length row < len → with_true ≡ row ++ true ∷ [] → is_some found ≡ true
    → option_map list_of found ≡ first_after test with_true (len - length with_true) → option_map list_of found ≡ first_after test row (len - length row)
found_with_true list_of test row with_true len None less is found_is same = cc
found_with_true list_of test row with_true len (Some found) less is found_is same =
    ap (λ o. option_or o (first_after test (row ++ false ∷ []) (len - length (row ++ false ∷ [])))) (same ∙ ap (λ r. first_after test r (len - length r)) is)
    ∙ sym (split test row len less)

pub found_with_false : {A : Type 0} (list_of : A → List Bool) (test : List Bool → Bool) (row with_true with_false : List Bool) (len : ℕ) (found : Option A) (answer : Option (List Bool))
    → length row < len → with_true ≡ row ++ true ∷ [] → with_false ≡ row ++ false ∷ [] → is_some found ≡ false
    → option_map list_of found ≡ first_after test with_true (len - length with_true)
    → answer ≡ first_after test with_false (len - length with_false) → answer ≡ first_after test row (len - length row)
found_with_false list_of test row with_true with_false len (Some found) answer less is is_false found_is none same = cc
found_with_false list_of test row with_true with_false len None answer less is is_false found_is none same =
    same ∙ ap (λ r. first_after test r (len - length r)) is_false
    ∙ ap (λ o. option_or o (first_after test (row ++ false ∷ []) (len - length (row ++ false ∷ [])))) (none ∙ ap (λ r. first_after test r (len - length r)) is)
    ∙ sym (split test row len less)
