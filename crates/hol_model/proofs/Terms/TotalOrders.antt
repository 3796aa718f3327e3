-- The orders of types and of terms without bound names are those of their codes, lists of numbers in which no code
-- begins another.
use Rattle.std.proofs.Common.{◌≡◌, ℕ, List, [], ◌∷◌, ◌++◌, refl, sym, ◌∙◌, ap, append_assoc}
use Rattle.std.specs.declared.cmp.Ordering.{Ordering}
use Rattle.std.specs.declared.cmp.Ordering.TheVariants.{Less, Equal, Greater}
use Rattle.std.specs.Ordering.{nat_cmp, ordering_then, ordering_reverse}
use Rattle.std.specs.Cmp.{IsTotalOrder}
use Rattle.std.specs.Cmp.Lexicographic.{slice_cmp, nat_list_cmp_total}
use Rattle.hol_model.specs.Terms.HolType.{HolType, type_variable, bool_type, function_type, declared_type, type_cmp}
use Rattle.hol_model.specs.Terms.Nameless.{Nameless, free, const, bound, app, lam, nameless_cmp}
use Rattle.hol_model.specs.Terms.Order.{IsOrder}
use Rattle.hol_model.proofs.Terms.Orders.{same_from_type_cmp, same_from_nameless_cmp}

abbrev compare : List ℕ → List ℕ → Ordering
compare r s = slice_cmp nat_cmp r s

then-assoc : (a b c : Ordering) → ordering_then (ordering_then a b) c ≡ ordering_then a (ordering_then b c)
then-assoc Less b c = refl
then-assoc Equal b c = refl
then-assoc Greater b c = refl

then-Equal : (a : Ordering) → ordering_then a Equal ≡ a
then-Equal Less = refl
then-Equal Equal = refl
then-Equal Greater = refl

-- names by their bytes
abbrev name_cmp : List ℕ → List ℕ → Ordering
name_cmp a b = slice_cmp nat_cmp a b

abbrev name_code : List ℕ → List ℕ
name_code [] = 0 ∷ []
name_code (b ∷ rest) = 1 ∷ b ∷ name_code rest

abbrev type_code : HolType → List ℕ
type_code (type_variable a) = 0 ∷ name_code a
type_code bool_type = 1 ∷ []
type_code (function_type a b) = 2 ∷ (type_code a ++ type_code b)
type_code (declared_type d) = 3 ∷ name_code d

abbrev nameless_code : Nameless → List ℕ
nameless_code (const n a) = 0 ∷ (name_code n ++ type_code a)
nameless_code (free n a) = 1 ∷ (name_code n ++ type_code a)
nameless_code (bound i) = 2 ∷ i ∷ []
nameless_code (app f x) = 3 ∷ (nameless_code f ++ nameless_code x)
nameless_code (lam a b) = 4 ∷ (type_code a ++ nameless_code b)

name-codes : (a b : List ℕ) (r s : List ℕ) → compare (name_code a ++ r) (name_code b ++ s) ≡ ordering_then (name_cmp a b) (compare r s)
name-codes [] [] r s = refl
name-codes [] (b ∷ others) r s = refl
name-codes (a ∷ more) [] r s = refl
name-codes (a ∷ more) (b ∷ others) r s =
    ap (ordering_then (nat_cmp a b)) (name-codes more others r s) ∙ sym (then-assoc (nat_cmp a b) (name_cmp more others) (compare r s))

-- two codes, one behind the other
two-codes : (p q r s u v : List ℕ) (o k l : Ordering) → compare (p ++ (q ++ r)) (s ++ (u ++ v)) ≡ ordering_then o (compare (q ++ r) (u ++ v))
    → compare (q ++ r) (u ++ v) ≡ ordering_then k l → compare ((p ++ q) ++ r) ((s ++ u) ++ v) ≡ ordering_then (ordering_then o k) l
two-codes p q r s u v o k l e f = rw (append_assoc p q r, append_assoc s u v) (e ∙ ap (ordering_then o) f ∙ sym (then-assoc o k l))

type-codes : (a b : HolType) (r s : List ℕ) → compare (type_code a ++ r) (type_code b ++ s) ≡ ordering_then (type_cmp a b) (compare r s)
type-codes (type_variable a) (type_variable b) r s = name-codes a b r s
type-codes (type_variable a) _ r s = refl
type-codes bool_type (type_variable b) r s = refl
type-codes bool_type bool_type r s = refl
type-codes bool_type _ r s = refl
type-codes (function_type a b) (declared_type d) r s = refl
type-codes (function_type a b) (function_type c d) r s =
    two-codes (type_code a) (type_code b) r (type_code c) (type_code d) s (type_cmp a c) (type_cmp b d) (compare r s) (type-codes a c (type_code b ++ r) (type_code d ++ s)) (type-codes b d r s)
type-codes (function_type a b) _ r s = refl
type-codes (declared_type a) (declared_type b) r s = name-codes a b r s
type-codes (declared_type a) _ r s = refl

nameless-codes : (t u : Nameless) (r s : List ℕ) → compare (nameless_code t ++ r) (nameless_code u ++ s) ≡ ordering_then (nameless_cmp t u) (compare r s)
nameless-codes (const m a) (const n b) r s =
    two-codes (name_code m) (type_code a) r (name_code n) (type_code b) s (name_cmp m n) (type_cmp a b) (compare r s) (name-codes m n (type_code a ++ r) (type_code b ++ s)) (type-codes a b r s)
nameless-codes (free m a) (free n b) r s =
    two-codes (name_code m) (type_code a) r (name_code n) (type_code b) s (name_cmp m n) (type_cmp a b) (compare r s) (name-codes m n (type_code a ++ r) (type_code b ++ s)) (type-codes a b r s)
nameless-codes (bound i) (bound j) r s = refl
nameless-codes (app f x) (app g y) r s =
    two-codes (nameless_code f) (nameless_code x) r (nameless_code g) (nameless_code y) s (nameless_cmp f g) (nameless_cmp x y) (compare r s)
    (nameless-codes f g (nameless_code x ++ r) (nameless_code y ++ s)) (nameless-codes x y r s)
nameless-codes (lam a t) (lam b u) r s =
    two-codes (type_code a) (nameless_code t) r (type_code b) (nameless_code u) s (type_cmp a b) (nameless_cmp t u) (compare r s)
    (type-codes a b (nameless_code t ++ r) (nameless_code u ++ s)) (nameless-codes t u r s)
nameless-codes t u r s = refl

-- an order by codes
by_code : {K : Type 0} (rank : K → K → Ordering) (code : K → List ℕ) → ((x y : K) → rank x y ≡ compare (code x) (code y)) → IsTotalOrder rank
by_code rank code h = record {
  antisymm = λ x y. h x y ∙ nat_list_cmp_total.antisymm (code x) (code y) ∙ ap ordering_reverse (sym (h y x));
  trans = λ x y z p q. h x z ∙ nat_list_cmp_total.trans (code x) (code y) (code z) (sym (h x y) ∙ p) (sym (h y z) ∙ q);
  congr = λ x y z p. h x z ∙ nat_list_cmp_total.congr (code x) (code y) (code z) (sym (h x y) ∙ p) ∙ sym (h y z);
}

pub type_cmp-IsOrder : IsOrder type_cmp
type_cmp-IsOrder = record {
  total = by_code type_cmp (λ a. type_code a ++ []) (λ a b. sym (type-codes a b [] [] ∙ then-Equal (type_cmp a b)));
  only_itself = same_from_type_cmp;
}

pub nameless_cmp-IsOrder : IsOrder nameless_cmp
nameless_cmp-IsOrder = record {
  total = by_code nameless_cmp (λ t. nameless_code t ++ []) (λ t u. sym (nameless-codes t u [] [] ∙ then-Equal (nameless_cmp t u)));
  only_itself = same_from_nameless_cmp;
}
