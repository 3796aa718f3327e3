-- The tables of types and terms of a log that is written: what stands at a place, and that it stays so.
use Rattle.std.proofs.Common.{◌≡◌, ◌⊎◌, ◌+◌, ℕ, zero, suc, List, [], ◌∷◌, ◌++◌, length, Bool, true, false, ◌||◌, not, refl, sym, ◌∙◌, ap, inl, inr, Some, cond, arith}
use Rattle.std.specs.Prelude.{slice_get, ◌==◌}
use Rattle.std.specs.List.{list_any, position_or_len}
use Rattle.std.proofs.lemmas.List.Folds.{list_any-append}
use Rattle.std.proofs.lemmas.Bool.Decides.{Decides-eqb}
use Rattle.std.proofs.lemmas.Slice.Eq.{bytes_eq-Decides}
use Rattle.std.specs.Str.{bytes_eq}
use Rattle.hol_model.proofs.Tests.{first_of_both, second_of_both, both}
use Rattle.hol_model.specs.Logs.LogLine.{LogLine}
use Rattle.hol_model.specs.Logs.LogLine.LogLine.{type_variable_line, bool_line, function_type_line, declared_type_line, variable_line, constant_line, combination_line, abstraction_line}
use Rattle.hol_journal_log.specs.LogWriting.{same_line, is_among, place_of}

-- numbers and places

same_number : (a b : ℕ) → (a == b) ≡ true → a ≡ b
same_number a b passed = (Decides-eqb a b).0 passed

itself : (a : ℕ) → (a == a) ≡ true
itself a = (Decides-eqb a a).1 refl

same_bytes : (a b : List ℕ) → bytes_eq a b ≡ true → a ≡ b
same_bytes a b passed = (bytes_eq-Decides a b).0 passed

bytes_itself : (a : List ℕ) → bytes_eq a a ≡ true
bytes_itself a = (bytes_eq-Decides a a).1 refl

pub same_line-is : (a b : LogLine) → same_line a b ≡ true → a ≡ b
same_line-is (type_variable_line a) (type_variable_line b) same = ap type_variable_line (same_bytes a b same)
same_line-is bool_line bool_line same = refl
same_line-is (function_type_line a b) (function_type_line c d) same =
    let one = same_number a c (first_of_both (a == c) (b == d) same) in let two = same_number b d (second_of_both (a == c) (b == d) same) in λ i. function_type_line (one i) (two i)
same_line-is (declared_type_line a) (declared_type_line b) same = ap declared_type_line (same_bytes a b same)
same_line-is (variable_line a s) (variable_line b t) same =
    let one = same_bytes a b (first_of_both (bytes_eq a b) (s == t) same) in let two = same_number s t (second_of_both (bytes_eq a b) (s == t) same) in λ i. variable_line (one i) (two i)
same_line-is (constant_line a s) (constant_line b t) same =
    let one = same_bytes a b (first_of_both (bytes_eq a b) (s == t) same) in let two = same_number s t (second_of_both (bytes_eq a b) (s == t) same) in λ i. constant_line (one i) (two i)
same_line-is (combination_line a b) (combination_line c d) same =
    let one = same_number a c (first_of_both (a == c) (b == d) same) in let two = same_number b d (second_of_both (a == c) (b == d) same) in λ i. combination_line (one i) (two i)
same_line-is (abstraction_line a b) (abstraction_line c d) same =
    let one = same_number a c (first_of_both (a == c) (b == d) same) in let two = same_number b d (second_of_both (a == c) (b == d) same) in λ i. abstraction_line (one i) (two i)
same_line-is _ _ same = cc

-- lines of types and terms

abbrev pub IsPart : LogLine → Type 0
IsPart line = same_line line line ≡ true

pub function_is-part : (a b : ℕ) → IsPart (function_type_line a b)
function_is-part a b = both (a == a) (b == b) (itself a) (itself b)

pub type_variable_is-part : (name : List ℕ) → IsPart (type_variable_line name)
type_variable_is-part name = bytes_itself name

pub declared_type_is-part : (name : List ℕ) → IsPart (declared_type_line name)
declared_type_is-part name = bytes_itself name

pub variable_is-part : (name : List ℕ) (ty : ℕ) → IsPart (variable_line name ty)
variable_is-part name ty = both (bytes_eq name name) (ty == ty) (bytes_itself name) (itself ty)

pub constant_is-part : (name : List ℕ) (ty : ℕ) → IsPart (constant_line name ty)
constant_is-part name ty = both (bytes_eq name name) (ty == ty) (bytes_itself name) (itself ty)

pub combination_is-part : (a b : ℕ) → IsPart (combination_line a b)
combination_is-part a b = both (a == a) (b == b) (itself a) (itself b)

pub abstraction_is-part : (a b : ℕ) → IsPart (abstraction_line a b)
abstraction_is-part a b = both (a == a) (b == b) (itself a) (itself b)

-- first places of what passes a test

or_true : (t : Bool) → (t || true) ≡ true
or_true true = refl
or_true false = refl

module _ {X : Type 0} (p : X → Bool) where
  pub passes_there : (xs : List X) → list_any p xs ≡ true → (x : X) × (slice_get xs (position_or_len p xs) ≡ Some x) × (p x ≡ true)
  passes_there [] some = cc
  passes_there (x ∷ xs) some = go (p x) refl some (passes_there xs)
    where
      go : (t : Bool) → p x ≡ t → (t || list_any p xs) ≡ true → (list_any p xs ≡ true → (y : X) × (slice_get xs (position_or_len p xs) ≡ Some y) × (p y ≡ true))
          → (y : X) × (slice_get (x ∷ xs) (cond (not t) (1 + position_or_len p xs) 0) ≡ Some y) × (p y ≡ true)
      go true is some deeper = (x, refl, is)
      go false is some deeper =
          let found = deeper some in
          let next : 1 + position_or_len p xs ≡ suc (position_or_len p xs) = omega arith in
          (found.0, ap (slice_get (x ∷ xs)) next ∙ found.1, found.2)

  pub still_there : (xs more : List X) → list_any p xs ≡ true → list_any p (xs ++ more) ≡ true
  still_there xs more some = list_any-append p xs more ∙ ap (λ t. t || list_any p more) some

  pub same_place : (xs more : List X) → list_any p xs ≡ true → position_or_len p (xs ++ more) ≡ position_or_len p xs
  same_place [] more some = cc
  same_place (x ∷ xs) more some = go (p x) some (same_place xs more)
    where
      go : (t : Bool) → (t || list_any p xs) ≡ true → (list_any p xs ≡ true → position_or_len p (xs ++ more) ≡ position_or_len p xs)
          → cond (not t) (1 + position_or_len p (xs ++ more)) 0 ≡ cond (not t) (1 + position_or_len p xs) 0
      go true some deeper = refl
      go false some deeper = ap (λ n. 1 + n) (deeper some)

  pub last_there : (xs : List X) (x : X) → p x ≡ true → list_any p (xs ++ x ∷ []) ≡ true
  last_there xs x is = list_any-append p xs (x ∷ []) ∙ ap (λ t. list_any p xs || (t || false)) is ∙ or_true (list_any p xs)

-- the line stands at its place
pub line_there : (line : LogLine) (lines : List LogLine) → is_among line lines ≡ true → slice_get lines (place_of line lines) ≡ Some line
line_there line lines among =
    let found = passes_there (same_line line) lines among in
    found.1 ∙ ap Some (sym (same_line-is line found.0 found.2))

-- a list that goes on
pub record GoesOn {X : Type 0} (old new : List X) : Type 0 where
  pub added : List X
  pub is : new ≡ old ++ added

-- in a list with one more, it stood there before or is the last
pub get_last : {X : Type 0} (xs : List X) (x : X) (n : ℕ) (y : X) → slice_get (xs ++ x ∷ []) n ≡ Some y → (slice_get xs n ≡ Some y) ⊎ ((n ≡ length xs) × (x ≡ y))
get_last [] x zero y is = let same : x ≡ y = cc in inr (refl, same)
get_last [] x (suc n) y is = cc
get_last (z ∷ xs) x zero y is = inl is
get_last (z ∷ xs) x (suc n) y is = elim (get_last xs x n y is) [ inl e ↦ inl e | inr e ↦ inr (ap suc e.0, e.1) ]
