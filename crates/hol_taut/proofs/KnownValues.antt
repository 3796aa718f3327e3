-- Values that facts tell, and values in all rows.
use Rattle.std.proofs.Common.{◌≡◌, ◌⊎◌, List, [], ◌∷◌, ◌++◌, Bool, true, false, ◌&&◌, ◌||◌, not, Option, Some, None, map, cond, length, refl, sym, ◌∙◌, ap, ap₂, inl, inr, if◌then◌else◌}
use Rattle.std.specs.Option.{option_map, option_or, is_some}
use Rattle.hol_model.proofs.Terms.Membership.{IsMember-append_left, IsMember-append_right}
use Rattle.std.specs.List.{find}
use Rattle.std.proofs.lemmas.List.Folds.{find-append}
use Rattle.std.proofs.lemmas.List.{length-map}
use Rattle.hol_model.specs.Logic.Derivable.{IsMember}
use Rattle.hol_model.specs.Terms.NamedTerm.{NamedTerm}
use Rattle.hol_model.specs.Terms.Nameless.{image}
use Rattle.hol_model.proofs.Tests.{same_term-Decides}
use Rattle.hol_model.specs.Propositional.Propositions.{Connective}
use Rattle.hol_model.specs.Propositional.Propositions.{And, Or, Implies, Iff}
use Rattle.hol_model.specs.Propositional.Propositions.{Proposition, atom, constantly, negated, connected, proposition, atom_places, atoms_of, with_new_terms, truth_table, is_true_by}
use Rattle.hol_model.specs.Kernel.Theorem.{are_alpha_equivalent}
use Rattle.hol_model.specs.Propositional.Tautologies.{rows, value_in, is_true_in, falsifying_row}
use Rattle.hol_taut.specs.FactLists.{known_table, known_by}
use Rattle.hol_taut.specs.Refuted.{IsByImage, IsAlwaysTrue, is_listed}
use Rattle.hol_taut_formulas.proofs.Rows.{find-map}

-- ---- what is known holds of each assignment that agrees

table-right : (connective : Connective) (p q : Bool) (l r : Option Bool) (b : Bool) → ((v : Bool) → l ≡ Some v → p ≡ v) → ((v : Bool) → r ≡ Some v → q ≡ v)
    → known_table connective l r ≡ Some b → truth_table connective p q ≡ b
table-right And p q (Some false) r b one two is = let e = one false refl in rw e cc
table-right And p q (Some true) r b one two is = let e = one true refl in let f = two b is in rw (e, f) refl
table-right And p q None (Some false) b one two is = let e = two false refl in rw e (and_false p ∙ cc)
  where
    and_false : (p : Bool) → (p && false) ≡ false
    and_false true = refl
    and_false false = refl
table-right And p q None (Some true) b one two is = cc
table-right And p q None None b one two is = cc
table-right Or p q (Some true) r b one two is = let e = one true refl in rw e cc
table-right Or p q (Some false) r b one two is = let e = one false refl in let f = two b is in rw (e, f) refl
table-right Or p q None (Some true) b one two is = let e = two true refl in rw e (or_true p ∙ cc)
  where
    or_true : (p : Bool) → (p || true) ≡ true
    or_true true = refl
    or_true false = refl
table-right Or p q None (Some false) b one two is = cc
table-right Or p q None None b one two is = cc
table-right Implies p q (Some false) r b one two is = let e = one false refl in rw e cc
table-right Implies p q (Some true) r b one two is = let e = one true refl in let f = two b is in rw (e, f) refl
table-right Implies p q None (Some true) b one two is = let e = two true refl in rw e (implies_true p ∙ cc)
  where
    implies_true : (p : Bool) → (not p || true) ≡ true
    implies_true true = refl
    implies_true false = refl
table-right Implies p q None (Some false) b one two is = cc
table-right Implies p q None None b one two is = cc
table-right Iff p q (Some v) (Some w) b one two is = let e = one v refl in let f = two w refl in rw (e, f) cc
table-right Iff p q (Some v) None b one two is = cc
table-right Iff p q None r b one two is = cc

-- an assignment agrees with the known values
pub record Agrees (value : NamedTerm → Option Bool) (total : NamedTerm → Bool) : Type 0 where
  pub at : (term : NamedTerm) (v : Bool) → value term ≡ Some v → total term ≡ v

pub known-right : (value : NamedTerm → Option Bool) (total : NamedTerm → Bool) → Agrees value total → (formula : Proposition) (b : Bool) → known_by value formula ≡ Some b
    → is_true_by total formula ≡ b
known-right value total agrees (atom term) b is = agrees.at term b is
known-right value total agrees (constantly v) b is = cc
known-right value total agrees (negated part) b is = go (known_by value part) (λ v same. known-right value total agrees part v same) is
  where
    go : (known : Option Bool) → ((v : Bool) → known ≡ Some v → is_true_by total part ≡ v) → option_map not known ≡ Some b → not (is_true_by total part) ≡ b
    go (Some v) right same = ap not (right v refl) ∙ cc
    go None right same = cc
known-right value total agrees (connected connective left right) b is =
    table-right connective (is_true_by total left) (is_true_by total right) (known_by value left) (known_by value right) b
    (λ v same. known-right value total agrees left v same) (λ v same. known-right value total agrees right v same) is

-- where each atom's value is known, so is the formula's

table-full : (connective : Connective) (v w : Bool) → is_some (known_table connective (Some v) (Some w)) ≡ true
table-full And true w = refl
table-full And false w = refl
table-full Or true w = refl
table-full Or false w = refl
table-full Implies true w = refl
table-full Implies false w = refl
table-full Iff v w = refl

pub known-full : (value : NamedTerm → Option Bool) (formula : Proposition) → ((term : NamedTerm) → IsMember term (atom_places formula) → is_some (value term) ≡ true)
    → is_some (known_by value formula) ≡ true
known-full value (atom term) all = all term (inl refl)
known-full value (constantly v) all = refl
known-full value (negated part) all = go (known_by value part) (known-full value part all)
  where
    go : (known : Option Bool) → is_some known ≡ true → is_some (option_map not known) ≡ true
    go (Some v) there = refl
    go None there = cc
known-full value (connected connective left right) all =
    go (known_by value left) (known_by value right) (known-full value left (λ term m. all term (IsMember-append_left term (atom_places left) (atom_places right) m)))
    (known-full value right (λ term m. all term (IsMember-append_right term (atom_places left) (atom_places right) m)))
  where
    go : (l r : Option Bool) → is_some l ≡ true → is_some r ≡ true → is_some (known_table connective l r) ≡ true
    go (Some v) (Some w) one two = table-full connective v w
    go (Some v) None one two = cc
    go None r one two = cc

-- ---- all rows

nothing-mapped : {A B : Type 0} (f : A → B) (x : Option A) → option_map f x ≡ None → x ≡ None
nothing-mapped f (Some x) is = cc
nothing-mapped f None is = refl

neither : {A : Type 0} (x y : Option A) → option_or x y ≡ None → (x ≡ None) × (y ≡ None)
neither (Some x) y is = cc
neither None y is = (refl, is)

found-not : {A : Type 0} (x : A) (test : Bool) → cond test (Some x) None ≡ None → test ≡ false
found-not x true is = cc
found-not x false is = refl

in-no-row : (p : List Bool → Bool) (row : List Bool) → find p (rows (length row)) ≡ None → p row ≡ false
in-no-row p [] is = found-not [] (p []) is
in-no-row p (true ∷ row) is =
    let parts = neither (find p (map (λ r. true ∷ r) (rows (length row)))) (find p (map (λ r. false ∷ r) (rows (length row))))
    (sym (find-append p (map (λ r. true ∷ r) (rows (length row))) (map (λ r. false ∷ r) (rows (length row)))) ∙ is) in
    in-no-row (λ r. p (true ∷ r)) row (nothing-mapped (λ r. true ∷ r) (find (λ r. p (true ∷ r)) (rows (length row))) (sym (find-map p (λ r. true ∷ r) (rows (length row))) ∙ parts.0))
in-no-row p (false ∷ row) is =
    let parts = neither (find p (map (λ r. true ∷ r) (rows (length row)))) (find p (map (λ r. false ∷ r) (rows (length row))))
    (sym (find-append p (map (λ r. true ∷ r) (rows (length row))) (map (λ r. false ∷ r) (rows (length row)))) ∙ is) in
    in-no-row (λ r. p (false ∷ r)) row (nothing-mapped (λ r. false ∷ r) (find (λ r. p (false ∷ r)) (rows (length row))) (sym (find-map p (λ r. false ∷ r) (rows (length row))) ∙ parts.1))

pub same_alpha : (a b : NamedTerm) → are_alpha_equivalent a b ≡ true → image a ≡ image b
same_alpha a b is = (same_term-Decides (image a) (image b)).0 is

pub alpha_same : (a b : NamedTerm) → image a ≡ image b → are_alpha_equivalent a b ≡ true
alpha_same a b is = (same_term-Decides (image a) (image b)).1 is

pub either-true : (a b : Bool) → (a || b) ≡ true → (a ≡ true) ⊎ (b ≡ true)
either-true true b is = inl refl
either-true false b is = inr is

true-right : (a b : Bool) → b ≡ true → (a || b) ≡ true
true-right true b is = refl
true-right false b is = is

true-left : (a b : Bool) → a ≡ true → (a || b) ≡ true
true-left a b is = rw is refl

-- in the row of an assignment, listed atoms have its values
in-its-row : (total : NamedTerm → Bool) → IsByImage total → (atoms : List NamedTerm) (term : NamedTerm) → is_listed term atoms ≡ true → value_in atoms (map total atoms) term ≡ total term
in-its-row total by [] term listed = cc
in-its-row total by (first ∷ atoms) term listed = go (are_alpha_equivalent first term) refl (in-its-row total by atoms term)
  where
    go : (test : Bool) → are_alpha_equivalent first term ≡ test → (is_listed term atoms ≡ true → value_in atoms (map total atoms) term ≡ total term)
        → (if test then total first else value_in atoms (map total atoms) term) ≡ total term
    go true is next = by.same first term (same_alpha first term is)
    go false is next = elim (either-true (are_alpha_equivalent term first) (is_listed term atoms) listed) [
      | inl same ↦ let e : true ≡ false = sym (alpha_same first term (sym (same_alpha term first same))) ∙ is in cc
      | inr later ↦ next later
    ]

-- each place of a list is among what it is put to the end of

listed-append : (term : NamedTerm) (xs ys : List NamedTerm) → is_listed term xs ≡ true → is_listed term (xs ++ ys) ≡ true
listed-append term [] ys is = cc
listed-append term (x ∷ xs) ys is = elim (either-true (are_alpha_equivalent term x) (is_listed term xs) is) [
  | inl here ↦ true-left (are_alpha_equivalent term x) (is_listed term (xs ++ ys)) here
  | inr later ↦ true-right (are_alpha_equivalent term x) (is_listed term (xs ++ ys)) (listed-append term xs ys later)
]

listed-last : (term : NamedTerm) (xs : List NamedTerm) → is_listed term (xs ++ term ∷ []) ≡ true
listed-last term [] = true-left (are_alpha_equivalent term term) false (alpha_same term term refl)
listed-last term (x ∷ xs) = true-right (are_alpha_equivalent term x) (is_listed term (xs ++ term ∷ [])) (listed-last term xs)

listed-stays : (term : NamedTerm) (xs seen : List NamedTerm) → is_listed term seen ≡ true → is_listed term (with_new_terms seen xs) ≡ true
listed-stays term [] seen is = is
listed-stays term (x ∷ xs) seen is = listed-stays term xs (if is_listed x seen then seen else (seen ++ x ∷ [])) (go (is_listed x seen))
  where
    go : (test : Bool) → is_listed term (if test then seen else (seen ++ x ∷ [])) ≡ true
    go true = is
    go false = listed-append term seen (x ∷ []) is

pub place-listed : (term : NamedTerm) (xs seen : List NamedTerm) → IsMember term xs → is_listed term (with_new_terms seen xs) ≡ true
place-listed term [] seen m = absurd m
place-listed term (x ∷ xs) seen (inr later) = place-listed term xs (if is_listed x seen then seen else (seen ++ x ∷ [])) later
place-listed term (x ∷ xs) seen (inl same) = listed-stays term xs (if is_listed x seen then seen else (seen ++ x ∷ [])) (go (is_listed x seen) refl)
  where
    go : (test : Bool) → is_listed x seen ≡ test → is_listed term (if test then seen else (seen ++ x ∷ [])) ≡ true
    go true is = ap (λ t. is_listed t seen) same ∙ is
    go false is = ap (λ t. is_listed t (seen ++ x ∷ [])) same ∙ listed-last x seen

same-values : (f g : NamedTerm → Bool) (formula : Proposition) → ((term : NamedTerm) → IsMember term (atom_places formula) → f term ≡ g term) → is_true_by f formula ≡ is_true_by g formula
same-values f g (atom term) same = same term (inl refl)
same-values f g (constantly v) same = refl
same-values f g (negated part) same = ap not (same-values f g part same)
same-values f g (connected connective left right) same =
    ap₂ (truth_table connective) (same-values f g left (λ term m. same term (IsMember-append_left term (atom_places left) (atom_places right) m)))
    (same-values f g right (λ term m. same term (IsMember-append_right term (atom_places left) (atom_places right) m)))

not-false : (b : Bool) → not b ≡ false → b ≡ true
not-false true is = refl
not-false false is = cc

-- a formula that is false in no row of its atoms is always true
pub always-true : (term : NamedTerm) → falsifying_row term ≡ None → IsAlwaysTrue (proposition term)
always-true term none = record {
  each = λ total by.
      let atoms = atoms_of term in
      let row = map total atoms in
      let never = in-no-row (λ r. not (is_true_in atoms term r)) row (ap (λ n. find (λ r. not (is_true_in atoms term r)) (rows n)) (length-map atoms total) ∙ none) in
      same-values total (value_in atoms row) (proposition term) (λ place m. sym (in-its-row total by atoms place (place-listed place (atom_places (proposition term)) [] m)))
      ∙ not-false (is_true_in atoms term row) never;
}
