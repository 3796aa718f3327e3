-- A variable whose name has a class that a term lacks is not free in the term.
use Rattle.std.proofs.Common.{◌≡◌, ℕ, ◌<◌, min, max, List, Bool, true, false, ◌&&◌, ◌||◌, not, refl, sym, ◌∙◌, ap, arith}
use Rattle.std.specs.Prelude.{nat_eq, bit_and, bit_or}
use Rattle.std.specs.Int.{bit_at}
use Rattle.std.specs.Int.Bits.{and_self}
use Rattle.std.proofs.lemmas.Nat.{pow_pos, or_comm}
use Rattle.std.proofs.lemmas.Nat.Bits.{bit_at_and, bit_at_or, bit_at-zero, same_from_bits}
use Rattle.std.proofs.lemmas.Bool.{eqb-true}
use Rattle.hol_model.specs.Terms.HolType.{HolType}
use Rattle.hol_model.specs.Terms.NamedTerm.{NamedTerm, variable, constant, combination, abstraction, same_variable, is_free}
use Rattle.hol_model.proofs.Tests.{same_name}
use Rattle.hol_terms.specs.Classes.{class_number, class_of_name, have_common_class, classes_of_names}

-- what the test for a common class says where it fails
pub nothing_common : (a b : ℕ) → have_common_class a b ≡ false → bit_and a b ≡ 0
nothing_common a b apart = go (nat_eq (bit_and a b) 0) refl apart
  where
    go : (test : Bool) → nat_eq (bit_and a b) 0 ≡ test → not test ≡ false → bit_and a b ≡ 0
    go true is apart = eqb-true (bit_and a b) 0 is
    go false is apart = cc

smaller : (x y z : ℕ) → min x (max y z) ≡ 0 → min x y ≡ 0
smaller x y z none = omega arith

-- sets that have nothing in common with a union have nothing in common with its parts
pub apart_from_first : (m a b : ℕ) → bit_and m (bit_or a b) ≡ 0 → bit_and m a ≡ 0
apart_from_first m a b apart = same_from_bits (bit_and m a) 0 (λ i. none i ∙ sym (bit_at-zero i))
  where
    both : (i : ℕ) → min (bit_at m i) (max (bit_at a i) (bit_at b i)) ≡ 0
    both i =
        sym (ap (min (bit_at m i)) (bit_at_or a b i)) ∙ sym (bit_at_and m (bit_or a b) i) ∙ ap (λ n. bit_at n i) apart ∙ bit_at-zero i

    none : (i : ℕ) → bit_at (bit_and m a) i ≡ 0
    none i = bit_at_and m a i ∙ smaller (bit_at m i) (bit_at a i) (bit_at b i) (both i)

pub apart_from_second : (m a b : ℕ) → bit_and m (bit_or a b) ≡ 0 → bit_and m b ≡ 0
apart_from_second m a b apart = apart_from_first m b a (ap (bit_and m) (or_comm b a) ∙ apart)

-- a name has a class
pub has_class : (name : List ℕ) → bit_and (class_of_name name) (class_of_name name) ≡ 0 → ⊥
has_class name none =
    let zero_class : class_of_name name ≡ 0 = sym (and_self (class_of_name name)) ∙ none in
    let above : 0 < class_of_name name = pow_pos (class_number name) in
    omega arith

-- names of classes that differ are different
pub other_names : (name other : List ℕ) (ty s : HolType) → bit_and (class_of_name name) (class_of_name other) ≡ 0 → same_variable name ty other s ≡ false
other_names name other ty s apart = go (same_variable name ty other s) refl
  where
    go : (test : Bool) → same_variable name ty other s ≡ test → test ≡ false
    go true is = absurd (has_class name (ap (λ n. bit_and (class_of_name name) (class_of_name n)) (same_name name other ty s is) ∙ apart))
    go false is = refl

neither : (p q : Bool) → p ≡ false → q ≡ false → (p || q) ≡ false
neither p q first second = cc

and_none : (p q : Bool) → q ≡ false → (p && q) ≡ false
and_none true q none = none
and_none false q none = refl

pub apart_not_free : (term : NamedTerm) (name : List ℕ) (ty : HolType) → bit_and (class_of_name name) (classes_of_names term) ≡ 0 → is_free name ty term ≡ false
apart_not_free (variable other s) name ty apart = other_names name other ty s apart
apart_not_free (constant other s) name ty apart = refl
apart_not_free (combination f x) name ty apart =
    neither (is_free name ty f) (is_free name ty x)
    (apart_not_free f name ty (apart_from_first (class_of_name name) (classes_of_names f) (classes_of_names x) apart))
    (apart_not_free x name ty (apart_from_second (class_of_name name) (classes_of_names f) (classes_of_names x) apart))
apart_not_free (abstraction other s body) name ty apart =
    and_none (not (same_variable name ty other s)) (is_free name ty body) (apart_not_free body name ty apart)

-- the same, from the test
pub not_free : (term : NamedTerm) (name : List ℕ) (ty : HolType) (class : ℕ) → class ≡ class_of_name name
    → have_common_class class (classes_of_names term) ≡ false → is_free name ty term ≡ false
not_free term name ty class is apart =
    apart_not_free term name ty (ap (λ c. bit_and c (classes_of_names term)) (sym is) ∙ nothing_common class (classes_of_names term) apart)

pub ruleset classes = (not_free)
