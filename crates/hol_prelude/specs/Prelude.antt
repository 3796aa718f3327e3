-- The theorems of the prelude.
use Rattle.std.specs.Prelude.{List, [], ◌∷◌, ◌++◌, codes, drop}
use Rattle.hol_model.specs.Terms.HolType.{bool_type}
use Rattle.hol_model.specs.Terms.NamedTerm.{NamedTerm, constant, equation}
use Rattle.hol_model.specs.Logic.Theory.{type_a}
use Rattle.hol_model.specs.Kernel.Theorem.{Theorem}
use Rattle.hol_model.specs.Logic.Logic.{logical_definitions, true_name, and_name, implies_name, forall_name, exists_name, or_name, false_name, not_name, unary, binary, quantifier}
use Rattle.hol_model.specs.Logic.NamedLogic.{true_term, false_term, conjunction, disjunction, implication, negation, forall_term}
pub use Rattle.hol_model.specs.Derived.Prelude.{p, q, r, f, P, x, t, P_x, formula_abstraction, tested, tests, tests_agree, always, forall_P, exists_P}
pub use Rattle.hol_model.specs.Derived.Prelude.{true_body, and_body, implies_body, forall_body, witness_cases, exists_body, cases, or_body}
pub use Rattle.hol_model.specs.Derived.Prelude.{false_body, not_body, defined, shown, eta_axiom, select_axiom, excluded_middle}

-- the definitions; TRUTH; then the pieces of EQT_INTRO, EQT_ELIM, CONJ, CONJUNCT1, CONJUNCT2, DISCH, MP, GEN, SPEC,
-- NOT_INTRO, NOT_ELIM and CONTR, those of each connective after its definition at variables; CONJ and MP as equations
abbrev pub first_theorems : List Theorem
first_theorems =
    defined (drop 7 logical_definitions) true_name bool_type true_body
    ∷ defined (drop 6 logical_definitions) and_name binary and_body
    ∷ defined (drop 5 logical_definitions) implies_name binary implies_body
    ∷ defined (drop 4 logical_definitions) forall_name (quantifier type_a) forall_body
    ∷ defined (drop 3 logical_definitions) exists_name (quantifier type_a) exists_body
    ∷ defined (drop 2 logical_definitions) or_name binary or_body
    ∷ defined (drop 1 logical_definitions) false_name bool_type false_body
    ∷ defined logical_definitions not_name unary not_body
    ∷ shown [] true_term
    ∷ shown (p ∷ []) (equation p true_term)
    ∷ shown (equation p true_term ∷ []) p
    ∷ shown [] (equation (conjunction p q) tests_agree)
    ∷ shown (p ∷ q ∷ []) (conjunction p q)
    ∷ shown (conjunction p q ∷ []) p
    ∷ shown (conjunction p q ∷ []) q
    ∷ shown [] (equation (implication p q) (equation (conjunction p q) p))
    ∷ shown (equation (conjunction p q) p ∷ []) (implication p q)
    ∷ shown (p ∷ implication p q ∷ []) q
    ∷ shown [] (equation forall_P (equation P always))
    ∷ shown (equation P always ∷ []) forall_P
    ∷ shown (forall_P ∷ []) P_x
    ∷ shown [] (equation (negation p) (implication p false_term))
    ∷ shown (implication p false_term ∷ []) (negation p)
    ∷ shown (negation p ∷ []) (implication p false_term)
    ∷ shown (false_term ∷ []) p
    ∷ shown (p ∷ []) (equation q (conjunction p q))
    ∷ shown (p ∷ []) (equation (implication p q) q)
    ∷ []

-- the piece of DISJ1
abbrev pub disjunction_theorems : List Theorem
disjunction_theorems = shown (p ∷ []) (disjunction p q) ∷ []

-- the pieces of DISJ2 and DISJ_CASES
abbrev pub case_theorems : List Theorem
case_theorems =
    shown (q ∷ []) (disjunction p q)
    ∷ shown (disjunction p q ∷ []) (implication (implication p r) (implication (implication q r) r))
    ∷ []

-- the piece of EXISTS
abbrev pub existence_theorems : List Theorem
existence_theorems = shown (P_x ∷ []) exists_P ∷ []

-- the piece of CHOOSE; ETA_AX and SELECT_AX
abbrev pub axiom_theorems : List Theorem
axiom_theorems =
    shown (exists_P ∷ []) (implication (forall_term (codes "x") type_a (implication P_x q)) q)
    ∷ shown [] eta_axiom
    ∷ shown [] select_axiom
    ∷ []

-- p \/ ~p
abbrev pub middle : NamedTerm
middle = disjunction p (negation p)

-- the piece of EXCLUDED_MIDDLE; EXCLUDED_MIDDLE
abbrev pub middle_theorems : List Theorem
middle_theorems =
    shown [] middle
    ∷ shown [] excluded_middle
    ∷ []

-- the pieces of CONJ that name no formula
abbrev pub conjunction_theorems : List Theorem
conjunction_theorems =
    shown [] (equation (constant and_name binary) (constant and_name binary))
    ∷ shown [] (conjunction true_term true_term)
    ∷ []

abbrev pub prelude_theorems : List Theorem
prelude_theorems = first_theorems ++ disjunction_theorems ++ case_theorems ++ existence_theorems ++ axiom_theorems ++ middle_theorems ++ conjunction_theorems
