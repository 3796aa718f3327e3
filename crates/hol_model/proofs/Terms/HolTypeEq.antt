-- The equality test on types decides equality, and their order answers `Equal` exactly there.
use Rattle.std.proofs.Common.{◌≡◌, List, ◌++◌, [], ◌∷◌, Bool, true, false, refl, ap}
use Rattle.std.proofs.lemmas.Slice.Eq.{bytes_eq-Decides}
use Rattle.std.specs.Bool.{Decides}
use Rattle.hol_model.specs.Terms.HolType.{HolType, type_variable, bool_type, function_type, declared_type, type_eq, type_nodes, with_new_types}
use Rattle.hol_model.proofs.Logic.Conditions.{first_of_both, second_of_both}

-- a type passes the test against itself
pub type_eq-self : (a : HolType) → type_eq a a ≡ true
type_eq-self (type_variable name) = (bytes_eq-Decides name name).1 refl
type_eq-self bool_type = refl
type_eq-self (function_type a b) = rw (type_eq-self a) (type_eq-self b)
type_eq-self (declared_type name) = (bytes_eq-Decides name name).1 refl

-- two types that pass the test are the same
pub same_from_type_eq : (a b : HolType) → type_eq a b ≡ true → a ≡ b
same_from_type_eq (type_variable x) (type_variable y) passed = ap type_variable ((bytes_eq-Decides x y).0 passed)
same_from_type_eq bool_type bool_type passed = refl
same_from_type_eq (function_type a b) (function_type c d) passed =
    let domain : a ≡ c = same_from_type_eq a c (first_of_both (type_eq a c) (type_eq b d) passed) in
    let codomain : b ≡ d = same_from_type_eq b d (second_of_both (type_eq a c) (type_eq b d) passed) in
    cc
same_from_type_eq (declared_type x) (declared_type y) passed = ap declared_type ((bytes_eq-Decides x y).0 passed)
same_from_type_eq _ _ passed = cc

pub type_eq-Decides : (a b : HolType) → Decides (type_eq a b) (a ≡ b)
type_eq-Decides a b = (same_from_type_eq a b, λ same. rw same (type_eq-self b))

-- to add two lists one after the other is to add them joined
pub with_new_types-append : (xs seen ys : List HolType) → with_new_types seen (xs ++ ys) ≡ with_new_types (with_new_types seen xs) ys
with_new_types-append [] seen ys = refl
with_new_types-append (x ∷ xs) seen ys = with_new_types-append xs _ ys

-- two types of different numbers of nodes fail the test
pub type_nodes_differ : (a b : HolType) → (type_nodes a ≡ type_nodes b → ⊥) → false ≡ type_eq a b
type_nodes_differ a b differ = different_from_test (type_eq a b) (λ passed. differ (ap type_nodes (same_from_type_eq a b passed)))
  where
    different_from_test : (test : Bool) → (test ≡ true → ⊥) → false ≡ test
    different_from_test true failed = absurd (failed refl)
    different_from_test false failed = refl

pub ruleset adding = (with_new_types-append)
