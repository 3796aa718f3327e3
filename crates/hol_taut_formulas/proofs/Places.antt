-- The place of an atom among atoms, and its value in a row.
use Rattle.std.proofs.Common.{◌≡◌, ℕ, suc, ◌<◌, ◌≤◌, ◌+◌, List, [], ◌∷◌, ◌++◌, Bool, true, false, not, ◌||◌, cond, Some, None, length, get_or, refl, sym, ◌∙◌, ap, arith, if◌then◌else◌}
use Rattle.std.specs.Prelude.{nat_lt, position}
use Rattle.std.specs.List.{list_any, position_or_len}
use Rattle.std.proofs.lemmas.Bool.Decides.{nat_tests}
use Rattle.std.proofs.lemmas.List.{length_push}
use Rattle.hol_model.specs.Terms.NamedTerm.{NamedTerm}
use Rattle.hol_model.specs.Terms.Nameless.{image}
use Rattle.hol_model.specs.Kernel.Theorem.{are_alpha_equivalent}
use Rattle.hol_model.specs.Propositional.Propositions.{with_new_terms}
use Rattle.hol_model.specs.Propositional.Tautologies.{value_in}
use Rattle.hol_model.proofs.Tests.{same_term-Decides}

-- how many of the atoms stand before the first that the term is
abbrev before : List NamedTerm → NamedTerm → ℕ
before atoms term = position_or_len (λ atom. are_alpha_equivalent atom term) atoms

-- ---- whether it is one of them

itself : (term : NamedTerm) → are_alpha_equivalent term term ≡ true
itself term = (same_term-Decides (image term) (image term)).1 refl

turned-true : (a b : NamedTerm) → are_alpha_equivalent a b ≡ true → are_alpha_equivalent b a ≡ true
turned-true a b is = (same_term-Decides (image b) (image a)).1 (sym ((same_term-Decides (image a) (image b)).0 is))

turned : (a b : NamedTerm) (test : Bool) → are_alpha_equivalent a b ≡ test → are_alpha_equivalent b a ≡ test
turned a b true is = turned-true a b is
turned a b false is = go (are_alpha_equivalent b a) refl
  where
    go : (test : Bool) → are_alpha_equivalent b a ≡ test → are_alpha_equivalent b a ≡ false
    go true same = let back : are_alpha_equivalent a b ≡ true = turned-true b a same in cc
    go false other = other

pub any-found : (atoms : List NamedTerm) (term : NamedTerm) → before atoms term < length atoms → list_any (are_alpha_equivalent term) atoms ≡ true
any-found [] term within = absurd (omega (arith, within))
any-found (atom ∷ atoms) term within = go (are_alpha_equivalent atom term) refl within (any-found atoms term)
  where
    go : (test : Bool) → are_alpha_equivalent atom term ≡ test → cond (not test) (1 + before atoms term) 0 < suc (length atoms)
        → (before atoms term < length atoms → list_any (are_alpha_equivalent term) atoms ≡ true) → (are_alpha_equivalent term atom || list_any (are_alpha_equivalent term) atoms) ≡ true
    go true is within rest = ap (λ test. test || list_any (are_alpha_equivalent term) atoms) (turned atom term true is)
    go false is within rest = ap (λ test. test || list_any (are_alpha_equivalent term) atoms) (turned atom term false is) ∙ rest (omega (arith, within))

pub any-missed : (atoms : List NamedTerm) (term : NamedTerm) → length atoms ≤ before atoms term → list_any (are_alpha_equivalent term) atoms ≡ false
any-missed [] term past = refl
any-missed (atom ∷ atoms) term past = go (are_alpha_equivalent atom term) refl past (any-missed atoms term)
  where
    go : (test : Bool) → are_alpha_equivalent atom term ≡ test → suc (length atoms) ≤ cond (not test) (1 + before atoms term) 0
        → (length atoms ≤ before atoms term → list_any (are_alpha_equivalent term) atoms ≡ false) → (are_alpha_equivalent term atom || list_any (are_alpha_equivalent term) atoms) ≡ false
    go true is past rest = absurd (omega (arith, past))
    go false is past rest = ap (λ test. test || list_any (are_alpha_equivalent term) atoms) (turned atom term false is) ∙ rest (omega (arith, past))

-- ---- what a search for it answers

pub is-found : (atoms : List NamedTerm) (term : NamedTerm) (place : ℕ) → Some place ≡ position (λ atom. are_alpha_equivalent atom term) atoms
    → (place ≡ before atoms term) × (before atoms term < length atoms)
is-found atoms term place found = go (nat_lt (before atoms term) (length atoms)) refl found
  where
    go : (test : Bool) → nat_lt (before atoms term) (length atoms) ≡ test → Some place ≡ cond test (Some (before atoms term)) None
        → (place ≡ before atoms term) × (before atoms term < length atoms)
    go true within found = (cc, grind (arith, nat_tests))
    go false past found = cc

pub is-missed : (atoms : List NamedTerm) (term : NamedTerm) → None ≡ position (λ atom. are_alpha_equivalent atom term) atoms → length atoms ≤ before atoms term
is-missed atoms term missed = go (nat_lt (before atoms term) (length atoms)) refl missed
  where
    go : (test : Bool) → nat_lt (before atoms term) (length atoms) ≡ test → None ≡ cond test (Some (before atoms term)) None → length atoms ≤ before atoms term
    go true within missed = cc
    go false past missed = grind (arith, nat_tests)

-- ---- atoms that are put behind others

-- an atom that was none of them stands last
pub pushed-last : (atoms : List NamedTerm) (term : NamedTerm) → length atoms ≤ before atoms term → before (atoms ++ term ∷ []) term ≡ length atoms
pushed-last [] term past = ap (λ test. cond (not test) (1 + 0) 0) (itself term)
pushed-last (atom ∷ atoms) term past = go (are_alpha_equivalent atom term) past (pushed-last atoms term)
  where
    go : (test : Bool) → suc (length atoms) ≤ cond (not test) (1 + before atoms term) 0 → (length atoms ≤ before atoms term → before (atoms ++ term ∷ []) term ≡ length atoms)
        → cond (not test) (1 + before (atoms ++ term ∷ []) term) 0 ≡ suc (length atoms)
    go true past rest = absurd (omega (arith, past))
    go false past rest = let last = rest (omega (arith, past)) in omega (arith, last)

before-append : (atoms more : List NamedTerm) (term : NamedTerm) → before atoms term < length atoms → before (atoms ++ more) term ≡ before atoms term
before-append [] more term within = absurd (omega (arith, within))
before-append (atom ∷ atoms) more term within = go (are_alpha_equivalent atom term) within (before-append atoms more term)
  where
    go : (test : Bool) → cond (not test) (1 + before atoms term) 0 < suc (length atoms) → (before atoms term < length atoms → before (atoms ++ more) term ≡ before atoms term)
        → cond (not test) (1 + before (atoms ++ more) term) 0 ≡ cond (not test) (1 + before atoms term) 0
    go true within rest = refl
    go false within rest = ap (λ n. 1 + n) (rest (omega (arith, within)))

-- the atom stands among others where it stood among these
abbrev stays : List NamedTerm → List NamedTerm → NamedTerm → Type 0
stays atoms others term = (before others term ≡ before atoms term) × (before others term < length others)

before-kept : (later atoms : List NamedTerm) (term : NamedTerm) → before atoms term < length atoms → stays atoms (with_new_terms atoms later) term
before-kept [] atoms term within = (refl, within)
before-kept (first ∷ later) atoms term within =
    let same = before-append atoms (first ∷ []) term within in
    let more = before-kept later (atoms ++ first ∷ []) term (let e = length_push atoms first in omega (arith, same, within)) in
    go (list_any (are_alpha_equivalent first) atoms) (before-kept later atoms term within) (more.0 ∙ same, more.1)
  where
    go : (test : Bool) → stays atoms (with_new_terms atoms later) term → stays atoms (with_new_terms (atoms ++ first ∷ []) later) term
        → stays atoms (with_new_terms (if test then atoms else (atoms ++ first ∷ [])) later) term
    go true known new = known
    go false known new = new

-- ---- its value

value-there : (atoms : List NamedTerm) (term : NamedTerm) (row : List Bool) → before atoms term < length atoms → get_or row (before atoms term) false ≡ value_in atoms row term
value-there [] term row within = absurd (omega (arith, within))
value-there (atom ∷ atoms) term [] within = refl
value-there (atom ∷ atoms) term (value ∷ row) within = go (are_alpha_equivalent atom term) within (value-there atoms term row)
  where
    go : (test : Bool) → cond (not test) (1 + before atoms term) 0 < suc (length atoms) → (before atoms term < length atoms → get_or row (before atoms term) false ≡ value_in atoms row term)
        → get_or (value ∷ row) (cond (not test) (1 + before atoms term) 0) false ≡ (if test then value else value_in atoms row term)
    go true within rest = refl
    go false within rest =
        let next : 1 + before atoms term ≡ suc (before atoms term) = omega arith in
        ap (λ n. get_or (value ∷ row) n false) next ∙ rest (omega (arith, within))

-- it is that of the place, whatever is put behind later
pub value-kept : (atoms : List NamedTerm) (term : NamedTerm) (row : List Bool) (place : ℕ) (later : List NamedTerm) → place ≡ before atoms term → before atoms term < length atoms
    → get_or row place false ≡ value_in (with_new_terms atoms later) row term
value-kept atoms term row place later is within =
    let kept = before-kept later atoms term within in
    ap (λ n. get_or row n false) (is ∙ sym kept.0) ∙ value-there (with_new_terms atoms later) term row kept.1
