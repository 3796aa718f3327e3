-- The theorems that stand when a script begins (HOL Light's `bool.ml` and `class.ml`), and their terms.
use Rattle.std.specs.Prelude.{ℕ, List, [], ◌∷◌, codes, drop}
use Rattle.hol_model.specs.Terms.HolType.{HolType, bool_type, function_type}
use Rattle.hol_model.specs.Terms.NamedTerm.{NamedTerm, variable, constant, combination, abstraction, equation}
use Rattle.hol_model.specs.Logic.Theory.{Theory, type_a, type_b}
use Rattle.hol_model.specs.Kernel.Theorem.{Theorem}
use Rattle.hol_model.specs.Logic.Logic.{logical_definitions, true_name, and_name, implies_name, forall_name, exists_name, or_name, false_name, not_name, unary, binary, predicate, quantifier}
use Rattle.hol_model.specs.Kernel.NamedAxioms.{eta_conclusion, select_hypothesis, select_conclusion}
use Rattle.hol_model.specs.Logic.NamedLogic.{true_term, false_term, conjunction, disjunction, implication, negation, forall_term}

-- variables

abbrev pub p : NamedTerm
p = variable (codes "p") bool_type

abbrev pub q : NamedTerm
q = variable (codes "q") bool_type

abbrev pub r : NamedTerm
r = variable (codes "r") bool_type

abbrev pub f : NamedTerm
f = variable (codes "f") binary

abbrev pub P : NamedTerm
P = variable (codes "P") (predicate type_a)

abbrev pub x : NamedTerm
x = variable (codes "x") type_a

abbrev pub t : NamedTerm
t = variable (codes "t") bool_type

abbrev pub P_x : NamedTerm
P_x = combination P x

abbrev pub formula_abstraction : List ℕ → NamedTerm → NamedTerm
formula_abstraction name body = abstraction name bool_type body

-- \f. f a b
abbrev pub tested : NamedTerm → NamedTerm → NamedTerm
tested a b = abstraction (codes "f") binary (combination (combination f a) b)

-- (\f. f a b) = (\f. f T T)
abbrev pub tests : NamedTerm → NamedTerm → NamedTerm
tests a b = equation (tested a b) (tested true_term true_term)

-- (\f. f p q) = (\f. f T T)
abbrev pub tests_agree : NamedTerm
tests_agree = tests p q

-- \x. T
abbrev pub always : NamedTerm
always = abstraction (codes "x") type_a true_term

-- (!) P
abbrev pub forall_P : NamedTerm
forall_P = combination (constant forall_name (quantifier type_a)) P

-- (?) P
abbrev pub exists_P : NamedTerm
exists_P = combination (constant exists_name (quantifier type_a)) P

-- T is (\p. p) = (\p. p)
abbrev pub true_body : NamedTerm
true_body = equation (formula_abstraction (codes "p") p) (formula_abstraction (codes "p") p)

-- /\ is \p q. (\f. f p q) = (\f. f T T)
abbrev pub and_body : NamedTerm
and_body =
    formula_abstraction (codes "p") (formula_abstraction (codes "q") tests_agree)

-- ==> is \p q. p /\ q <=> p
abbrev pub implies_body : NamedTerm
implies_body = formula_abstraction (codes "p") (formula_abstraction (codes "q") (equation (conjunction p q) p))

-- ! is \P. P = (\x. T)
abbrev pub forall_body : NamedTerm
forall_body = abstraction (codes "P") (predicate type_a) (equation P always)

-- !q. (!x. P x ==> q) ==> q
abbrev pub witness_cases : NamedTerm
witness_cases = forall_term (codes "q") bool_type (implication (forall_term (codes "x") type_a (implication P_x q)) q)

-- ? is \P. !q. (!x. P x ==> q) ==> q
abbrev pub exists_body : NamedTerm
exists_body = abstraction (codes "P") (predicate type_a) witness_cases

-- !r. (p ==> r) ==> (q ==> r) ==> r
abbrev pub cases : NamedTerm
cases = forall_term (codes "r") bool_type (implication (implication p r) (implication (implication q r) r))

-- \/ is \p q. !r. (p ==> r) ==> (q ==> r) ==> r
abbrev pub or_body : NamedTerm
or_body = formula_abstraction (codes "p") (formula_abstraction (codes "q") cases)

-- F is !p. p
abbrev pub false_body : NamedTerm
false_body = forall_term (codes "p") bool_type p

-- ~ is \p. p ==> F
abbrev pub not_body : NamedTerm
not_body = formula_abstraction (codes "p") (implication p false_term)

-- a theorem without hypotheses, over the first definitions
abbrev pub defined : Theory → List ℕ → HolType → NamedTerm → Theorem
defined theory name ty body = record { theory = theory; hypotheses = []; conclusion = equation (constant name ty) body }

-- a theorem over the logical definitions
abbrev pub shown : List NamedTerm → NamedTerm → Theorem
shown hypotheses conclusion = record { theory = logical_definitions; hypotheses = hypotheses; conclusion = conclusion }

-- !t. (\x. t x) = t
abbrev pub eta_axiom : NamedTerm
eta_axiom = forall_term (codes "t") (function_type type_a type_b) eta_conclusion

-- !P. !x. P x ==> P ((@) P)
abbrev pub select_axiom : NamedTerm
select_axiom = forall_term (codes "P") (predicate type_a) (forall_term (codes "x") type_a (implication select_hypothesis select_conclusion))

-- !t. t \/ ~t
abbrev pub excluded_middle : NamedTerm
excluded_middle = forall_term (codes "t") bool_type (disjunction t (negation t))

-- the stored theorems with their names, in order
abbrev pub stored_theorems : List (List ℕ × Theorem)
stored_theorems =
    (codes "T_DEF", defined (drop 7 logical_definitions) true_name bool_type true_body)
    ∷ (codes "AND_DEF", defined (drop 6 logical_definitions) and_name binary and_body)
    ∷ (codes "IMP_DEF", defined (drop 5 logical_definitions) implies_name binary implies_body)
    ∷ (codes "FORALL_DEF", defined (drop 4 logical_definitions) forall_name (quantifier type_a) forall_body)
    ∷ (codes "EXISTS_DEF", defined (drop 3 logical_definitions) exists_name (quantifier type_a) exists_body)
    ∷ (codes "OR_DEF", defined (drop 2 logical_definitions) or_name binary or_body)
    ∷ (codes "F_DEF", defined (drop 1 logical_definitions) false_name bool_type false_body)
    ∷ (codes "NOT_DEF", defined logical_definitions not_name unary not_body)
    ∷ (codes "TRUTH", shown [] true_term)
    ∷ (codes "ETA_AX", shown [] eta_axiom)
    ∷ (codes "SELECT_AX", shown [] select_axiom)
    ∷ (codes "EXCLUDED_MIDDLE", shown [] excluded_middle)
    ∷ []
