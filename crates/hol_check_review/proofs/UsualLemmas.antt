-- The tests by which entries are compared decide.
use Rattle.std.proofs.Common.{◌≡◌, ◌∙◌, ap, sym, subst, refl, inl, inr, ℕ, List, [], ◌∷◌, map, Bool, true, false, ◌&&◌, ◌||◌, ◌↔◌, IsTrue, eqb-true, eq-eqb}
use Rattle.std.specs.List.{list_any}
use Rattle.std.specs.Str.{bytes_eq}
use Rattle.std.proofs.lemmas.Slice.Eq.{bytes_eq-Decides}
use Rattle.hol_model.specs.Terms.HolType.{HolType, type_eq}
use Rattle.hol_model.specs.Terms.Nameless.{Nameless, free, const, bound, app, lam}
use Rattle.hol_model.specs.Logic.Derivable.{IsMember}
use Rattle.hol_model.specs.Logic.Theory.{Entry, definition, declaration_of_type, declaration_of_constant}
use Rattle.hol_model.proofs.Logic.Conditions.{first_of_both, second_of_both}
use Rattle.hol_model.proofs.Tests.{both}
use Rattle.hol_model.proofs.Terms.HolTypeEq.{type_eq-Decides}
use Rattle.hol_model_evaluator.specs.Trees.{entry_of}
use Rattle.hol_model_evaluator.specs.declared.tree.EntryTree.{EntryTree}
use Rattle.hol_check_review.specs.Usual.{same_nameless, same_entry}

same_bytes : (a b : List ℕ) → bytes_eq a b ≡ true → a ≡ b
same_bytes a b passed = (bytes_eq-Decides a b).0 passed

bytes-self : (a : List ℕ) → bytes_eq a a ≡ true
bytes-self a = (bytes_eq-Decides a a).1 refl

same_types : (s t : HolType) → type_eq s t ≡ true → s ≡ t
same_types s t passed = (type_eq-Decides s t).0 passed

type-self : (s : HolType) → type_eq s s ≡ true
type-self s = (type_eq-Decides s s).1 refl

named-same : {A : Type 0} → (make : List ℕ → HolType → A) (a b : List ℕ) (s t : HolType) → (bytes_eq a b && type_eq s t) ≡ true → make a s ≡ make b t
named-same make a b s t passed =
    let name : a ≡ b = same_bytes a b (first_of_both (bytes_eq a b) (type_eq s t) passed) in
    let type : s ≡ t = same_types s t (second_of_both (bytes_eq a b) (type_eq s t) passed) in
    λ i. make (name i) (type i)

-- terms
nameless-same : (a b : Nameless) → same_nameless a b ≡ true → a ≡ b
nameless-same (free a s) (free b t) passed = named-same free a b s t passed
nameless-same (const a s) (const b t) passed = named-same const a b s t passed
nameless-same (bound i) (bound j) passed = ap bound (eqb-true i j passed)
nameless-same (app f x) (app g y) passed =
    let function : f ≡ g = nameless-same f g (first_of_both (same_nameless f g) (same_nameless x y) passed) in
    let argument : x ≡ y = nameless-same x y (second_of_both (same_nameless f g) (same_nameless x y) passed) in
    λ i. app (function i) (argument i)
nameless-same (lam s p) (lam t q) passed =
    let type : s ≡ t = same_types s t (first_of_both (type_eq s t) (same_nameless p q) passed) in
    let body : p ≡ q = nameless-same p q (second_of_both (type_eq s t) (same_nameless p q) passed) in
    λ i. lam (type i) (body i)
nameless-same _ _ passed = cc

nameless-self : (a : Nameless) → same_nameless a a ≡ true
nameless-self (free a s) = both (bytes_eq a a) (type_eq s s) (bytes-self a) (type-self s)
nameless-self (const a s) = both (bytes_eq a a) (type_eq s s) (bytes-self a) (type-self s)
nameless-self (bound i) = eq-eqb i i refl
nameless-self (app f x) = both (same_nameless f f) (same_nameless x x) (nameless-self f) (nameless-self x)
nameless-self (lam s p) = both (type_eq s s) (same_nameless p p) (type-self s) (nameless-self p)

-- entries
entry-same : (a b : Entry) → same_entry a b ≡ true → a ≡ b
entry-same (definition a s p) (definition b t q) passed =
    let head : (bytes_eq a b && type_eq s t) ≡ true = first_of_both (bytes_eq a b && type_eq s t) (same_nameless p q) passed in
    let name : a ≡ b = same_bytes a b (first_of_both (bytes_eq a b) (type_eq s t) head) in
    let type : s ≡ t = same_types s t (second_of_both (bytes_eq a b) (type_eq s t) head) in
    let body : p ≡ q = nameless-same p q (second_of_both (bytes_eq a b && type_eq s t) (same_nameless p q) passed) in
    λ i. definition (name i) (type i) (body i)
entry-same (declaration_of_type a) (declaration_of_type b) passed = ap declaration_of_type (same_bytes a b passed)
entry-same (declaration_of_constant a s) (declaration_of_constant b t) passed = named-same declaration_of_constant a b s t passed
entry-same _ _ passed = cc

entry-self : (a : Entry) → same_entry a a ≡ true
entry-self (definition a s p) = both (bytes_eq a a && type_eq s s) (same_nameless p p) (both (bytes_eq a a) (type_eq s s) (bytes-self a) (type-self s)) (nameless-self p)
entry-self (declaration_of_type a) = bytes-self a
entry-self (declaration_of_constant a s) = both (bytes_eq a a) (type_eq s s) (bytes-self a) (type-self s)

-- an entry is among those of trees exactly where it is that of one of them
among : (entry : Entry) (trees : List EntryTree) → list_any (λ tree. same_entry entry (entry_of tree)) trees ≡ true → IsMember entry (map entry_of trees)
among entry [] passed = cc
among entry (tree ∷ trees) passed = go (same_entry entry (entry_of tree)) refl passed (λ later. among entry trees later)
  where
    go : (test : Bool) → same_entry entry (entry_of tree) ≡ test → (test || list_any (λ tree. same_entry entry (entry_of tree)) trees) ≡ true
        → (list_any (λ tree. same_entry entry (entry_of tree)) trees ≡ true → IsMember entry (map entry_of trees)) → IsMember entry (entry_of tree ∷ map entry_of trees)
    go true is passed later = inl (entry-same entry (entry_of tree) is)
    go false is passed later = inr (later passed)

passes : (entry : Entry) (trees : List EntryTree) → IsMember entry (map entry_of trees) → list_any (λ tree. same_entry entry (entry_of tree)) trees ≡ true
passes entry [] member = absurd member
passes entry (tree ∷ trees) (inl is) = ap (λ (test : Bool). test || list_any (λ tree. same_entry entry (entry_of tree)) trees)
    (subst (λ (other : Entry). same_entry entry other ≡ true) is (entry-self entry))
passes entry (tree ∷ trees) (inr member) = behind (same_entry entry (entry_of tree)) _ (passes entry trees member)
  where
    behind : (test rest : Bool) → rest ≡ true → (test || rest) ≡ true
    behind true rest is = refl
    behind false rest is = is

pub among-Decides : (entry : Entry) (trees : List EntryTree) (result : Bool) → result ≡ list_any (λ tree. same_entry entry (entry_of tree)) trees
    → IsTrue result ↔ IsMember entry (map entry_of trees)
among-Decides entry trees result is = (λ passed. among entry trees (sym is ∙ passed), λ member. is ∙ passes entry trees member)
