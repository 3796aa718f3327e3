-- The refusal of a formula that is no tautology, from the atoms that were found and the row.
use Rattle.std.proofs.Common.{◌≡◌, ℕ, ◌≤◌, ◌<◌, ◌-◌, inl, inr, List, [], ◌∷◌, cond, Bool, true, false, not, Option, Some, None, Result, Ok, Err, length, refl, sym, ◌∙◌}
use Rattle.std.proofs.Common.{ap, subst, arith, if◌then◌else◌}
use Rattle.std.specs.Prelude.{nat_le, IsErrAnd}
use Rattle.std.specs.Option.{option_map}
use Rattle.std.specs.List.{find}
use Rattle.std.proofs.lemmas.Bool.Decides.{nat_tests}
use Rattle.hol_model.specs.declared.fault.Fault.{Fault}
use Rattle.hol_model.specs.declared.fault.Fault.TheVariants.{NotTautology, TooManyAtoms}
use Rattle.hol_model.specs.declared.limits.TheConstants.{ATOMS_LIMIT}
use Rattle.hol_model.specs.Kernel.Outcome.{AnswersSuch}
use Rattle.hol_model.specs.Terms.NamedTerm.{NamedTerm}
use Rattle.hol_model.specs.Propositional.Propositions.{proposition, atom_places, atoms_of, with_new_terms}
use Rattle.hol_model.specs.Propositional.Tautologies.{rows, is_true_in, falsifying_row, row_in_full, falsity_of}
use Rattle.hol_taut_formulas.specs.AddedAtoms.{AreRefused}
use Rattle.hol_taut_formulas.specs.declared.numbered.Numbered.{Numbered}
use Rattle.hol_taut_formulas.specs.NumberedFormulas.{is_true_at}
use Rattle.hol_taut_formulas.specs.FalseRows.{first_falsity}

option_map-itself : {A : Type 0} (x : Option A) → option_map (λ y. y) x ≡ x
option_map-itself (Some x) = refl
option_map-itself None = refl

-- the row that is found among those of no values
pub found-first : (formula : Numbered) (count : ℕ) → first_falsity count formula [] ≡ find (λ row. not (is_true_at row formula)) (rows count)
found-first formula count =
    let all : count - length {A = Bool} [] ≡ count = omega arith in
    option_map-itself (find (λ row. not (is_true_at row formula)) (rows (count - length {A = Bool} [])))
    ∙ ap (λ n. find (λ row. not (is_true_at row formula)) (rows n)) all

never-found : (test : List Bool → Bool) (all : List (List Bool)) → ((row : List Bool) → test row ≡ false) → find test all ≡ None
never-found test [] fails = refl
never-found test (row ∷ all) fails = ap (λ b. cond b (Some row) (find test all)) (fails row) ∙ never-found test all fails

-- a formula that is always true
pub none-false : (formula : Numbered) (count : ℕ) → ((row : List Bool) → is_true_at row formula ≡ true) → None ≡ find (λ row. not (is_true_at row formula)) (rows count)
none-false formula count holds = sym (never-found (λ row. not (is_true_at row formula)) (rows count) (λ row. ap not (holds row)))

-- the row that is found, where the atoms are the formula's
pub row-found : (term : NamedTerm) (atoms : List NamedTerm) (formula : Numbered) (count : ℕ) (found : Option (List Bool)) → atoms ≡ atoms_of term
    → ((row : List Bool) → is_true_at row formula ≡ is_true_in atoms term row) → count ≡ length atoms
    → found ≡ find (λ row. not (is_true_at row formula)) (rows count) → found ≡ falsifying_row term
row-found term atoms formula count found is means counted first =
    first
    ∙ ap (λ n. find (λ row. not (is_true_at row formula)) (rows n)) counted
    ∙ (λ i. find (λ row. not (means row i)) (rows (length atoms)))
    ∙ ap (λ some. find (λ row. not (is_true_in some term row)) (rows (length some))) is

many : (n : ℕ) → ATOMS_LIMIT < n → nat_le n ATOMS_LIMIT ≡ false
many n over = grind (arith, nat_tests)

few : (n : ℕ) → n ≤ ATOMS_LIMIT → nat_le n ATOMS_LIMIT ≡ true
few n within = grind (arith, nat_tests)

pub within-limit : (term : NamedTerm) (atoms : List NamedTerm) → atoms ≡ atoms_of term → length atoms ≤ ATOMS_LIMIT
    → falsity_of term ≡ option_map (λ row. NotTautology (length atoms) (row_in_full row)) (falsifying_row term)
within-limit term atoms is within =
    ap (λ test. if test then option_map (λ row. NotTautology (length (atoms_of term)) (row_in_full row)) (falsifying_row term) else Some TooManyAtoms)
    (ap (λ some. nat_le (length some) ATOMS_LIMIT) (sym is) ∙ few (length atoms) within)
    ∙ ap (λ some. option_map (λ row. NotTautology (length some) (row_in_full row)) (falsifying_row term)) (sym is)

over-limit : (term : NamedTerm) → ATOMS_LIMIT < length (atoms_of term) → falsity_of term ≡ Some TooManyAtoms
over-limit term over =
    ap (λ test. if test then option_map (λ row. NotTautology (length (atoms_of term)) (row_in_full row)) (falsifying_row term) else Some TooManyAtoms)
    (many (length (atoms_of term)) over)

-- the refusal of a formula that was not numbered
pub not-numbered : {A : Type 0} (result : Result A Fault) (term : NamedTerm) (none : List NamedTerm) (fault : Fault) (fact : A → Type 0) → none ≡ []
    → IsErrAnd result (λ other. other ≡ fault) → AreRefused (atom_places (proposition term)) none fault → AnswersSuch result (falsity_of term) fact
not-numbered (Ok atoms) term none fault fact is same refused = absurd same
not-numbered (Err other) term none fault fact is same (inl memory) = inl (same ∙ memory)
not-numbered (Err other) term none fault fact is same (inr (many_atoms, over)) =
    let all : ATOMS_LIMIT < length (atoms_of term) = subst (λ (l : List NamedTerm). ATOMS_LIMIT < length (with_new_terms l (atom_places (proposition term)))) is over in
    inr (over-limit term all ∙ ap (λ fault. Some fault) (sym (same ∙ many_atoms)))
