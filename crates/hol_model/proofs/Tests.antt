-- Tests on variables and on terms without bound names decide the equations that they ask.
use Rattle.std.proofs.Common.{◌≡◌, ◌∙◌, ℕ, List, Bool, true, false, IsTrue, ◌&&◌, ◌||◌, refl, sym}
use Rattle.std.specs.Str.{bytes_eq}
use Rattle.std.specs.Bool.{Decides}
use Rattle.std.specs.Cmp.{Equal-is}
use Rattle.std.proofs.lemmas.Slice.Eq.{bytes_eq-Decides}
use Rattle.hol_model.specs.Terms.HolType.{HolType, type_eq}
use Rattle.hol_model.specs.Terms.NamedTerm.{NamedTerm, same_variable}
use Rattle.hol_model.specs.Terms.Nameless.{Nameless, nameless_cmp, same_term}
use Rattle.hol_model.proofs.Terms.HolTypeEq.{type_eq-Decides}
pub use Rattle.hol_model.proofs.Logic.Conditions.{first_of_both, second_of_both}
use Rattle.hol_model.proofs.Terms.Orders.{nameless_cmp-self, same_from_nameless_cmp}

pub both : (p q : Bool) → p ≡ true → q ≡ true → (p && q) ≡ true
both p q first second = cc

-- what the test for one variable says of names and types
pub same_name : (a b : List ℕ) (s t : HolType) → same_variable a s b t ≡ true → a ≡ b
same_name a b s t passed = (bytes_eq-Decides a b).0 (first_of_both (bytes_eq a b) (type_eq s t) passed)

pub same_variable-type : (a b : List ℕ) (s t : HolType) → same_variable a s b t ≡ true → s ≡ t
same_variable-type a b s t passed = (type_eq-Decides s t).0 (second_of_both (bytes_eq a b) (type_eq s t) passed)

pub same_variable-self : (a : List ℕ) (s : HolType) → same_variable a s a s ≡ true
same_variable-self a s = both (bytes_eq a a) (type_eq s s) ((bytes_eq-Decides a a).1 refl) ((type_eq-Decides s s).1 refl)

-- variables, and constants, of one name and type are one
pub same_leaf : (leaf : List ℕ → HolType → NamedTerm) (a b : List ℕ) (s t : HolType) (test : Bool) → test ≡ same_variable a s b t → IsTrue test
    → leaf a s ≡ leaf b t
same_leaf leaf a b s t test is_tested passed =
    let e : same_variable a s b t ≡ true = sym is_tested ∙ passed in
    λ i. leaf (same_name a b s t e i) (same_variable-type a b s t e i)

-- a test that decides gives the one answer where both questions are one
pub same_answer : (p q : Bool) → (p ≡ true → q ≡ true) → (q ≡ true → p ≡ true) → p ≡ q
same_answer true q to back = sym (to refl)
same_answer false true to back = back refl
same_answer false false to back = refl

pub same_variable-sym : (a b : List ℕ) (s t : HolType) → same_variable a s b t ≡ same_variable b t a s
same_variable-sym a b s t = same_answer (same_variable a s b t) (same_variable b t a s) (turn a b s t) (turn b a t s)
  where
    turn : (a b : List ℕ) (s t : HolType) → same_variable a s b t ≡ true → same_variable b t a s ≡ true
    turn a b s t passed = rw (same_name a b s t passed, same_variable-type a b s t passed) (same_variable-self b t)

-- the test for one term decides whether two terms are the same
pub same_term-Decides : (s t : Nameless) → Decides (same_term s t) (s ≡ t)
same_term-Decides s t = (
  λ passed. same_from_nameless_cmp s t ((Equal-is (nameless_cmp s t)).0 passed),
  λ same. (Equal-is (nameless_cmp s t)).1 (rw same (nameless_cmp-self t)),
)

-- neither half of a disjunction
pub first_of_neither : (p q : Bool) → (p || q) ≡ false → p ≡ false
first_of_neither true q failed = failed
first_of_neither false q failed = refl

pub second_of_neither : (p q : Bool) → (p || q) ≡ false → q ≡ false
second_of_neither true q failed = cc
second_of_neither false q failed = failed
