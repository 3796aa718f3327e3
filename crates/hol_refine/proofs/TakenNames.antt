-- Names that are taken are not longer than the longest.
use Rattle.std.proofs.Common.{◌≡◌, ℕ, zero, suc, ◌≤◌, max, List, [], ◌∷◌, Bool, true, false, ◌||◌, refl, sym, ◌∙◌, ap, length, arith, Option, Some, None, if◌then◌else◌}
use Rattle.std.specs.Prelude.{bit_and, slice_get}
use Rattle.std.specs.List.{list_any}
use Rattle.std.specs.Option.{is_some, option_map_or}
use Rattle.std.specs.Str.{bytes_eq}
use Rattle.std.proofs.lemmas.Slice.Eq.{bytes_eq-Decides}
use Rattle.hol_model.specs.Terms.HolType.{HolType}
use Rattle.hol_model.specs.Terms.NamedTerm.{NamedTerm, variable, constant, combination, abstraction, Binder, is_free}
use Rattle.hol_model.specs.Terms.Nameless.{Nameless, free, const, bound, app, lam, image, image_under, binder_index, variable_image}
use Rattle.hol_model.specs.Logic.Theory.{Theory, definition, declaration_of_type, declaration_of_constant, generic_type, equality_name, choice_name, equality_type, choice_type, type_a}
use Rattle.hol_model.specs.Terms.Substitution.{occurs_free}
use Rattle.hol_model.proofs.Terms.Images.{occurs_free-image}
use Rattle.hol_model.specs.Goals.Goals.{Goal}
use Rattle.hol_terms.specs.Classes.{class_of_name, have_common_class, classes_of_names}
use Rattle.hol_terms.proofs.FreeNames.{nothing_common, apart_from_first, apart_from_second, has_class}
use Rattle.hol_refine.proofs.Primes.{longest_free, longest_of, free_is_bounded}
use Rattle.hol_model.specs.Refining.Refiners.{has_free_name, is_taken, is_taken_beside}

pub bound_passes : (binders : List Binder) (name other : List ℕ) (ty : HolType) → is_some (binder_index binders other ty) ≡ true → has_free_name name (variable_image binders other ty) ≡ false
bound_passes binders name other ty is = go (binder_index binders other ty) is
  where
    go : (found : Option ℕ) → is_some found ≡ true → has_free_name name (option_map_or bound found (free other ty)) ≡ false
    go None is = cc
    go (Some index) is = refl

pub free_compares : (binders : List Binder) (name other : List ℕ) (ty : HolType)
    → is_some (binder_index binders other ty) ≡ false → has_free_name name (variable_image binders other ty) ≡ bytes_eq name other
free_compares binders name other ty is = go (binder_index binders other ty) is
  where
    go : (found : Option ℕ) → is_some found ≡ false → has_free_name name (option_map_or bound found (free other ty)) ≡ bytes_eq name other
    go None is = refl
    go (Some index) is = cc

-- a name whose class a term lacks is no free variable's there
apart_passes : (binders : List Binder) (name : List ℕ) (term : NamedTerm) → bit_and (class_of_name name) (classes_of_names term) ≡ 0
    → has_free_name name (image_under binders term) ≡ false
apart_passes binders name (variable other ty) apart = go (binder_index binders other ty)
  where
    differs : (test : Bool) → bytes_eq name other ≡ test → test ≡ false
    differs true is = absurd (has_class name (ap (λ n. bit_and (class_of_name name) (class_of_name n)) ((bytes_eq-Decides name other).0 is) ∙ apart))
    differs false is = refl

    go : (found : Option ℕ) → has_free_name name (option_map_or bound found (free other ty)) ≡ false
    go None = differs (bytes_eq name other) refl
    go (Some index) = refl
apart_passes binders name (constant other ty) apart = refl
apart_passes binders name (combination f x) apart =
    neither (has_free_name name (image_under binders f)) (has_free_name name (image_under binders x))
    (apart_passes binders name f (apart_from_first (class_of_name name) (classes_of_names f) (classes_of_names x) apart))
    (apart_passes binders name x (apart_from_second (class_of_name name) (classes_of_names f) (classes_of_names x) apart))
  where
    neither : (p q : Bool) → p ≡ false → q ≡ false → (p || q) ≡ false
    neither p q first second = cc
apart_passes binders name (abstraction other ty body) apart = apart_passes ((other, ty) ∷ binders) name body apart

-- the same, from the test of classes
pub lacks_class : (binders : List Binder) (name : List ℕ) (term : NamedTerm) (class : ℕ) → class ≡ class_of_name name
    → have_common_class class (classes_of_names term) ≡ false → has_free_name name (image_under binders term) ≡ false
lacks_class binders name term class is apart =
    apart_passes binders name term (ap (λ c. bit_and c (classes_of_names term)) (sym is) ∙ nothing_common class (classes_of_names term) apart)

either_bound : (p q : Bool) (n a b : ℕ) → (p ≡ true → n ≤ a) → (q ≡ true → n ≤ b) → (p || q) ≡ true → n ≤ max a b
either_bound true q n a b left right some = let below : n ≤ a = left refl in omega arith
either_bound false q n a b left right some = let below : n ≤ b = right some in omega arith

free_name_is_bounded : (name : List ℕ) (t : Nameless) → has_free_name name t ≡ true → length name ≤ longest_free t
free_name_is_bounded name (free other ty) is = let same : length name ≡ length other = ap length ((bytes_eq-Decides name other).0 is) in omega arith
free_name_is_bounded name (const other ty) is = cc
free_name_is_bounded name (bound index) is = cc
free_name_is_bounded name (app f x) is =
    either_bound (has_free_name name f) (has_free_name name x) (length name) (longest_free f) (longest_free x) (free_name_is_bounded name f) (free_name_is_bounded name x) is
free_name_is_bounded name (lam ty body) is = free_name_is_bounded name body is

some_free_name_is_bounded : (name : List ℕ) (terms : List NamedTerm) → list_any (λ term. has_free_name name (image term)) terms ≡ true → length name ≤ longest_of terms
some_free_name_is_bounded name [] is = cc
some_free_name_is_bounded name (term ∷ terms) is =
    either_bound (has_free_name name (image term)) (list_any (λ t. has_free_name name (image t)) terms) (length name) (longest_free (image term)) (longest_of terms)
    (free_name_is_bounded name (image term)) (some_free_name_is_bounded name terms) is

-- the length of the longest name of a constant
abbrev pub longest_constant : Theory → ℕ
longest_constant [] = 1
longest_constant (definition other ty body ∷ rest) = max (length other) (longest_constant rest)
longest_constant (declaration_of_type other ∷ rest) = longest_constant rest
longest_constant (declaration_of_constant other ty ∷ rest) = max (length other) (longest_constant rest)

found-bounded : (other name : List ℕ) (ty : HolType) (more : Option HolType) (n : ℕ) → (is_some more ≡ true → length name ≤ n) → (test : Bool) → bytes_eq other name ≡ test
    → is_some (if◌then◌else◌ {A = Option HolType} test (Some ty) more) ≡ true → length name ≤ max (length other) n
found-bounded other name ty more n below true same is = let same_length : length other ≡ length name = ap length ((bytes_eq-Decides other name).0 same) in omega arith
found-bounded other name ty more n below false differs is = let at_most : length name ≤ n = below is in omega arith

constant_is_bounded : (theory : Theory) (name : List ℕ) → is_some (generic_type theory name) ≡ true → length name ≤ longest_constant theory
constant_is_bounded [] name is =
    found-bounded equality_name name (equality_type type_a) (if◌then◌else◌ {A = Option HolType} (bytes_eq choice_name name) (Some (choice_type type_a)) None) 1
    (found-bounded choice_name name (choice_type type_a) None 1 (λ none. cc) (bytes_eq choice_name name) refl) (bytes_eq equality_name name) refl is
constant_is_bounded (definition other ty body ∷ rest) name is =
    found-bounded other name ty (generic_type rest name) (longest_constant rest) (constant_is_bounded rest name) (bytes_eq other name) refl is
constant_is_bounded (declaration_of_type other ∷ rest) name is = constant_is_bounded rest name is
constant_is_bounded (declaration_of_constant other ty ∷ rest) name is =
    found-bounded other name ty (generic_type rest name) (longest_constant rest) (constant_is_bounded rest name) (bytes_eq other name) refl is

abbrev pub longest_taken : Theory → Goal → ℕ
longest_taken theory goal = max (longest_constant theory) (longest_of (goal.target ∷ goal.assumptions))

pub taken_is_bounded : (theory : Theory) (goal : Goal) (name : List ℕ) → is_taken theory goal name ≡ true → length name ≤ longest_taken theory goal
taken_is_bounded theory goal name is =
    either_bound (is_some (generic_type theory name)) (list_any (λ t. has_free_name name (image t)) (goal.target ∷ goal.assumptions)) (length name) (longest_constant theory)
    (longest_of (goal.target ∷ goal.assumptions)) (constant_is_bounded theory name) (some_free_name_is_bounded name (goal.target ∷ goal.assumptions)) is

-- ---- beside a conclusion

pub free_in_image : (test : Bool) (name : List ℕ) (ty : HolType) (term : NamedTerm) → test ≡ is_free name ty term → test ≡ occurs_free name ty (image term)
free_in_image test name ty term is = is ∙ sym (occurs_free-image name ty term)

abbrev pub longest_taken_beside : Theory → Goal → NamedTerm → ℕ
longest_taken_beside theory goal conclusion = max (longest_taken theory goal) (longest_free (image conclusion))

pub taken_beside_is_bounded : (theory : Theory) (goal : Goal) (ty : HolType) (conclusion : NamedTerm) (name : List ℕ)
    → is_taken_beside theory goal ty conclusion name ≡ true → length name ≤ longest_taken_beside theory goal conclusion
taken_beside_is_bounded theory goal ty conclusion name is =
    either_bound (is_taken theory goal name) (occurs_free name ty (image conclusion)) (length name) (longest_taken theory goal) (longest_free (image conclusion))
    (taken_is_bounded theory goal name) (free_is_bounded (image conclusion) name ty) is

-- ---- the tests of a name, assumptions first

some_is_true : (constant target assumed : Bool) → assumed ≡ true → (constant || (target || assumed)) ≡ true
some_is_true true target assumed is = refl
some_is_true false true assumed is = refl
some_is_true false false assumed is = is

first_is_true : (constant target assumed : Bool) → target ≡ true → (constant || (target || assumed)) ≡ true
first_is_true true target assumed is = refl
first_is_true false target assumed is = rw is refl

constant_alone : (constant target assumed : Bool) → target ≡ false → assumed ≡ false → (constant || (target || assumed)) ≡ constant
constant_alone true target assumed not_target not_assumed = refl
constant_alone false target assumed not_target not_assumed = rw (not_target, not_assumed) refl

pub taken_by_assumption : (theory : Theory) (goal : Goal) (name : List ℕ) → list_any (λ term. has_free_name name (image term)) goal.assumptions ≡ true
    → is_taken theory goal name ≡ true
taken_by_assumption theory goal name is =
    some_is_true (is_some (generic_type theory name)) (has_free_name name (image goal.target)) (list_any (λ term. has_free_name name (image term)) goal.assumptions) is

pub taken_by_target : (theory : Theory) (goal : Goal) (name : List ℕ) → has_free_name name (image goal.target) ≡ true → is_taken theory goal name ≡ true
taken_by_target theory goal name is =
    first_is_true (is_some (generic_type theory name)) (has_free_name name (image goal.target)) (list_any (λ term. has_free_name name (image term)) goal.assumptions) is

pub taken_by_constant : (theory : Theory) (goal : Goal) (name : List ℕ) (test : Bool) → test ≡ is_some (generic_type theory name)
    → list_any (λ term. has_free_name name (image term)) goal.assumptions ≡ false → has_free_name name (image goal.target) ≡ false
    → test ≡ is_taken theory goal name
taken_by_constant theory goal name test is not_assumed not_target =
    is ∙ sym (constant_alone (is_some (generic_type theory name)) (has_free_name name (image goal.target)) (list_any (λ term. has_free_name name (image term)) goal.assumptions) not_target not_assumed)

-- what is free in the term at a place is free in one of them
pub found_at : (name : List ℕ) (terms : List NamedTerm) (place : ℕ) (term : NamedTerm) → slice_get terms place ≡ Some term → has_free_name name (image term) ≡ true
    → list_any (λ t. has_free_name name (image t)) terms ≡ true
found_at name [] place term is found = cc
found_at name (first ∷ terms) zero term is found =
    let same : first ≡ term = cc in
    first_passes (has_free_name name (image first)) (list_any (λ t. has_free_name name (image t)) terms) (ap (λ t. has_free_name name (image t)) same ∙ found)
  where
    first_passes : (p q : Bool) → p ≡ true → (p || q) ≡ true
    first_passes p q is = rw is refl
found_at name (first ∷ terms) (suc place) term is found =
    rest_passes (has_free_name name (image first)) (list_any (λ t. has_free_name name (image t)) terms) (found_at name terms place term is found)
  where
    rest_passes : (p q : Bool) → q ≡ true → (p || q) ≡ true
    rest_passes true q is = refl
    rest_passes false q is = is
