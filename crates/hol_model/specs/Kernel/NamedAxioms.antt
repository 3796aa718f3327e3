-- The two axioms of the kernel, with names at their binders (HOL Light's ETA_AX and SELECT_AX without their quantifiers).
use Rattle.std.specs.Prelude.{codes, [], ◌∷◌}
use Rattle.hol_model.specs.Terms.HolType.{function_type, bool_type}
use Rattle.hol_model.specs.Terms.NamedTerm.{NamedTerm, variable, constant, combination, abstraction, equation}
use Rattle.hol_model.specs.Logic.Theory.{Theory, type_a, type_b, choice_name, choice_type}
use Rattle.hol_model.specs.Kernel.Theorem.{Theorem}

abbrev pub eta_function : NamedTerm
eta_function = variable (codes "t") (function_type type_a type_b)

-- (\x:A. t x) = t
abbrev pub eta_conclusion : NamedTerm
eta_conclusion = equation (abstraction (codes "x") type_a (combination eta_function (variable (codes "x") type_a))) eta_function

abbrev pub select_predicate : NamedTerm
select_predicate = variable (codes "P") (function_type type_a bool_type)

-- P x
abbrev pub select_hypothesis : NamedTerm
select_hypothesis = combination select_predicate (variable (codes "x") type_a)

-- P (@ P)
abbrev pub select_conclusion : NamedTerm
select_conclusion = combination select_predicate (combination (constant choice_name (choice_type type_a)) select_predicate)

abbrev pub eta_theorem : Theory → Theorem
eta_theorem theory = record { theory = theory; hypotheses = []; conclusion = eta_conclusion }

abbrev pub select_theorem : Theory → Theorem
select_theorem theory = record { theory = theory; hypotheses = select_hypothesis ∷ []; conclusion = select_conclusion }
