-- Laws that derivations of the prelude cite. They are made among its theorems, and then left out.
use Rattle.std.specs.Prelude.{List, [], ◌∷◌, ◌++◌, codes, take, drop}
use Rattle.hol_model.specs.Terms.HolType.{bool_type}
use Rattle.hol_model.specs.Terms.NamedTerm.{NamedTerm, variable, constant, combination, equation}
use Rattle.hol_model.specs.Logic.Theory.{choice_name, choice_type}
use Rattle.hol_model.specs.Kernel.Theorem.{Theorem}
use Rattle.hol_model.specs.Kernel.NamedAxioms.{select_hypothesis, select_conclusion}
use Rattle.hol_model.specs.Logic.NamedLogic.{true_term, false_term, disjunction, implication}
use Rattle.hol_prelude.specs.declared.tables.TheConstants.{FIRST_LAW, BEHIND_LAWS}
use Rattle.hol_prelude.specs.Prelude.{p, q, P, x, P_x, formula_abstraction, tested, tests, always, forall_P, exists_P, cases, witness_cases, middle, shown}

abbrev pub u : NamedTerm
u = variable (codes "u") bool_type

abbrev pub v : NamedTerm
v = variable (codes "v") bool_type

-- \p q. p
abbrev pub first : NamedTerm
first = formula_abstraction (codes "p") (formula_abstraction (codes "q") p)

-- laws of `T`, `==>`, `!`, `\/`, `?` and `@`
abbrev pub laws : List Theorem
laws =
    shown [] (equation (equation p true_term) p)
    ∷ shown [] (equation (equation (tests u v) u) (implication u v))
    ∷ shown [] (equation (equation (combination (tested u v) first) (combination (tested true_term true_term) first)) u)
    ∷ shown [] (equation (implication true_term q) q)
    ∷ shown [] (equation (implication p true_term) true_term)
    ∷ shown [] (equation (equation P always) forall_P)
    ∷ shown [] (equation (equation P_x (combination always x)) P_x)
    ∷ shown [] (equation (disjunction p q) cases)
    ∷ shown [] (equation cases (disjunction p q))
    ∷ shown [] (equation exists_P witness_cases)
    ∷ shown [] (implication select_hypothesis select_conclusion)
    ∷ []

-- laws of `F`, of `p ==> p` and of `\/`
abbrev pub falsity_laws : List Theorem
falsity_laws =
    shown [] (equation (equation (equation p false_term) p) false_term)
    ∷ shown [] (implication p p)
    ∷ shown [] (equation (disjunction p true_term) true_term)
    ∷ shown (p ∷ []) (disjunction p q)
    ∷ shown (p ∷ []) (equation middle true_term)
    ∷ []

-- @x. a formula of x
abbrev pub chosen_formula : NamedTerm → NamedTerm
chosen_formula body = combination (constant choice_name (choice_type bool_type)) (formula_abstraction (codes "x") body)

-- (@x. T) <=> F
abbrev pub denial : NamedTerm
denial = equation (chosen_formula true_term) false_term

-- ((((@x. T) <=> F) <=> x) ==> p \/ ~p) <=> p \/ ~p: the formula is the denial, or the middle holds
abbrev pub decides : NamedTerm → NamedTerm
decides formula = equation (implication (equation denial formula) middle) middle

-- a formula that decides
abbrev pub decider : NamedTerm
decider = chosen_formula (decides (variable (codes "x") bool_type))

-- laws of the formula that is chosen for `p \/ ~p`
abbrev pub decider_laws : List Theorem
decider_laws =
    shown [] (decides decider)
    ∷ shown (equation denial decider ∷ []) (equation middle true_term)
    ∷ []

-- a list in the order of the tables, without the laws
abbrev pub without_laws : {A : Type 0} → List A → List A
without_laws all = take FIRST_LAW all ++ drop BEHIND_LAWS all
