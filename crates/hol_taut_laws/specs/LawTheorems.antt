-- The theorems from which tautologies are proved.
use Rattle.std.specs.Prelude.{ℕ, List, [], ◌∷◌, ◌++◌, take}
use Rattle.hol_model.specs.Terms.NamedTerm.{equation}
use Rattle.hol_model.specs.Kernel.Theorem.{Theorem}
use Rattle.hol_model.specs.Logic.NamedLogic.{true_term, false_term, conjunction, disjunction, implication, negation}
use Rattle.hol_prelude.specs.Prelude.{p, q, r, shown, first_theorems, disjunction_theorems, case_theorems, existence_theorems, axiom_theorems, middle_theorems, conjunction_theorems}
use Rattle.hol_prelude.specs.Laws.{laws}
use Rattle.hol_taut_formulas.specs.declared.law.Law.{Law}
use Rattle.hol_taut_formulas.specs.declared.law.Law.TheVariants.{Truth, Contr, Conj, Mp, Disj1, Disj2, AndFalseLeft, AndFalseRight}
use Rattle.hol_taut_formulas.specs.declared.law.Law.TheVariants.{ImpFalseLeft, ImpTrueRight, NotTrue, NotFalse, IffTrueLeft, IffTrueRight, IffFalseLeft, OrFalseLeft, NotFalseElim}

-- ---- the tables

-- the laws that the prelude leaves out stand where its derivations cite them
abbrev pub cited_theorems : List Theorem
cited_theorems = first_theorems ++ take 4 laws ++ (disjunction_theorems ++ case_theorems ++ existence_theorems ++ axiom_theorems ++ middle_theorems ++ conjunction_theorems)

abbrev pub discharged_laws : List Theorem
discharged_laws =
    shown [] (implication p p)
    ∷ shown [] (implication (disjunction p q) (implication (implication p r) (implication (implication q r) r)))
    ∷ []

abbrev pub side_laws : List Theorem
side_laws =
    shown (equation p false_term ∷ []) (equation (conjunction p q) false_term)
    ∷ shown (equation q false_term ∷ []) (equation (conjunction p q) false_term)
    ∷ shown (equation p false_term ∷ []) (implication p q)
    ∷ shown (q ∷ []) (implication p q)
    ∷ []

abbrev pub negation_laws : List Theorem
negation_laws =
    shown (p ∷ []) (equation (negation p) false_term)
    ∷ shown (equation p false_term ∷ []) (negation p)
    ∷ shown (p ∷ []) (equation (equation p q) q)
    ∷ shown (q ∷ []) (equation (equation p q) p)
    ∷ shown (equation p false_term ∷ []) (equation (equation q false_term) (equation p q))
    ∷ []

abbrev pub disjunction_laws : List Theorem
disjunction_laws = shown (equation p false_term ∷ []) (equation (disjunction p q) q) ∷ []

abbrev pub denial_laws : List Theorem
denial_laws = shown (equation (equation p false_term) false_term ∷ []) p ∷ []

abbrev pub tautology_theorems : List Theorem
tautology_theorems = cited_theorems ++ discharged_laws ++ side_laws ++ negation_laws ++ disjunction_laws ++ denial_laws

-- ---- the laws

abbrev pub law_theorem : Law → Theorem
law_theorem Truth = shown [] true_term
law_theorem Contr = shown (false_term ∷ []) p
law_theorem Conj = shown (p ∷ []) (equation q (conjunction p q))
law_theorem Mp = shown (p ∷ []) (equation (implication p q) q)
law_theorem Disj1 = shown (p ∷ []) (disjunction p q)
law_theorem Disj2 = shown (q ∷ []) (disjunction p q)
law_theorem AndFalseLeft = shown (equation p false_term ∷ []) (equation (conjunction p q) false_term)
law_theorem AndFalseRight = shown (equation q false_term ∷ []) (equation (conjunction p q) false_term)
law_theorem ImpFalseLeft = shown (equation p false_term ∷ []) (implication p q)
law_theorem ImpTrueRight = shown (q ∷ []) (implication p q)
law_theorem NotTrue = shown (p ∷ []) (equation (negation p) false_term)
law_theorem NotFalse = shown (equation p false_term ∷ []) (negation p)
law_theorem IffTrueLeft = shown (p ∷ []) (equation (equation p q) q)
law_theorem IffTrueRight = shown (q ∷ []) (equation (equation p q) p)
law_theorem IffFalseLeft = shown (equation p false_term ∷ []) (equation (equation q false_term) (equation p q))
law_theorem OrFalseLeft = shown (equation p false_term ∷ []) (equation (disjunction p q) q)
law_theorem NotFalseElim = shown (equation (equation p false_term) false_term ∷ []) p

-- where a law stands among the theorems
abbrev pub place : Law → ℕ
place Truth = 8
place Contr = 24
place Conj = 25
place Mp = 26
place Disj1 = 31
place Disj2 = 32
place AndFalseLeft = 44
place AndFalseRight = 45
place ImpFalseLeft = 46
place ImpTrueRight = 47
place NotTrue = 48
place NotFalse = 49
place IffTrueLeft = 50
place IffTrueRight = 51
place IffFalseLeft = 52
place OrFalseLeft = 53
place NotFalseElim = 54
