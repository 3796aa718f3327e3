-- The causes for which a line of a proof log is refused.
use Rattle.std.specs.Prelude.{ℕ, ◌+◌, List, [], ◌∷◌, Bool, true, false, ◌&&◌, ◌||◌, not, Option, Some, None, if◌then◌else◌, nat_eq, nat_le, length}
use Rattle.std.specs.List.{list_any, list_all}
use Rattle.hol_model.specs.declared.fault.Cause.{Cause}
use Rattle.hol_model.specs.declared.fault.Cause.TheVariants.{Shape, Number, Name, Kind, Const, Rule, Claim, Large, End}
use Rattle.hol_model.specs.declared.limits.TheConstants.{DEFINITIONS_LIMIT}
use Rattle.hol_model.specs.Terms.Name.{is_identifier, is_type_variable_name, is_declared_type_name, is_constant_name}
use Rattle.hol_model.specs.Terms.HolType.{HolType, function_type, bool_type, type_eq, replaces_type_variables}
use Rattle.hol_model.specs.Terms.NamedTerm.{type_fits}
use Rattle.hol_model.specs.Terms.Nameless.{Nameless, free, app, lam, same_term}
use Rattle.hol_model.specs.Terms.Measures.{nameless_within_limits}
use Rattle.hol_model.specs.Terms.Substitution.{occurs_free}
use Rattle.hol_model.specs.Logic.KnownTerm.{is_declared}
use Rattle.hol_model.specs.Logic.Legality.{is_fixed, is_new_name}
use Rattle.hol_model.specs.Logic.Checks.{knows_constant, has_no_free, reflects_nameless}
use Rattle.hol_model.specs.Goals.Goals.{Sequent}
use Rattle.hol_model.specs.Logs.LogLine.{LogVersion, LogRule, LogLine}
use Rattle.hol_model.specs.Logs.LogLine.LogVersion.{first_version, second_version}
use Rattle.hol_model.specs.Logs.LogLine.LogRule.{refl_step, trans_step, mk_comb_step, abs_step, beta_step, assume_step, eq_mp_step, deduct_step, inst_step, inst_type_step, eta_step, select_step}
use Rattle.hol_model.specs.Logs.LogLine.LogRule.{definition_step}
use Rattle.hol_model.specs.Logs.LogLine.LogLine.{header_line, type_variable_line, function_type_line, declared_type_line, variable_line, constant_line, combination_line, abstraction_line}
use Rattle.hol_model.specs.Logs.LogLine.LogLine.{new_type_line, new_constant_line, theorem_line, claim_line, end_line}
use Rattle.hol_model.specs.Logs.LogState.{LogState, set_of, same_terms, type_at, term_at, conclusion_at, hypotheses_at, term_type, type_of_term_at, terms_at, term_pairs_at, type_pairs_at}
use Rattle.hol_model.specs.Logs.LogSequents.{is_free_variable, variable_name, is_equation, left_side, right_side, side_type, new_types, new_terms, new_theorems, new_entries}

-- `shape`: a header after the first line, and a line of the second version in a log of the first

abbrev pub is_first_version : LogVersion → Bool
is_first_version first_version = true
is_first_version second_version = false

abbrev pub has_shape_fault : LogState → LogLine → Bool
has_shape_fault state (header_line version) = true
has_shape_fault state (declared_type_line name) = is_first_version state.version
has_shape_fault state (new_type_line name) = is_first_version state.version
has_shape_fault state (new_constant_line name ty) = is_first_version state.version
has_shape_fault state _ = false

-- `number`: a number that names nothing earlier of its kind

abbrev pub is_no_type : LogState → ℕ → Bool
is_no_type state number = nat_le (length state.types) number

abbrev pub is_no_term : LogState → ℕ → Bool
is_no_term state number = nat_le (length state.terms) number

abbrev pub is_no_theorem : LogState → ℕ → Bool
is_no_theorem state number = nat_le (length state.theorems) number

abbrev pub some_is_no_term : LogState → List (ℕ × ℕ) → Bool
some_is_no_term state pairs = list_any (λ pair. is_no_term state pair.0 || is_no_term state pair.1) pairs

abbrev pub some_is_no_type : LogState → List (ℕ × ℕ) → Bool
some_is_no_type state pairs = list_any (λ pair. is_no_type state pair.0 || is_no_type state pair.1) pairs

abbrev pub rule_has_number_fault : LogState → LogRule → Bool
rule_has_number_fault state (refl_step t) = is_no_term state t
rule_has_number_fault state (trans_step i j) = is_no_theorem state i || is_no_theorem state j
rule_has_number_fault state (mk_comb_step i j) = is_no_theorem state i || is_no_theorem state j
rule_has_number_fault state (abs_step t i) = is_no_term state t || is_no_theorem state i
rule_has_number_fault state (beta_step t) = is_no_term state t
rule_has_number_fault state (assume_step t) = is_no_term state t
rule_has_number_fault state (eq_mp_step i j) = is_no_theorem state i || is_no_theorem state j
rule_has_number_fault state (deduct_step i j) = is_no_theorem state i || is_no_theorem state j
rule_has_number_fault state (inst_step i pairs) = is_no_theorem state i || some_is_no_term state pairs
rule_has_number_fault state (inst_type_step i pairs) = is_no_theorem state i || some_is_no_type state pairs
rule_has_number_fault state eta_step = false
rule_has_number_fault state select_step = false
rule_has_number_fault state (definition_step name t) = is_no_term state t

abbrev pub has_number_fault : LogState → LogLine → Bool
has_number_fault state (function_type_line a b) = is_no_type state a || is_no_type state b
has_number_fault state (variable_line name ty) = is_no_type state ty
has_number_fault state (constant_line name ty) = is_no_type state ty
has_number_fault state (combination_line f a) = is_no_term state f || is_no_term state a
has_number_fault state (abstraction_line v t) = is_no_term state v || is_no_term state t
has_number_fault state (new_constant_line name ty) = is_no_type state ty
has_number_fault state (theorem_line rule) = rule_has_number_fault state rule
has_number_fault state (claim_line name i c hs) = is_no_theorem state i || is_no_term state c || list_any (is_no_term state) hs
has_number_fault state _ = false

-- `name`: a name that is none of its kind, or a new name that is taken

abbrev pub is_no_new_constant : LogState → List ℕ → Bool
is_no_new_constant state name = not (is_constant_name name && is_new_name state.theory name)

abbrev pub rule_has_name_fault : LogState → LogRule → Bool
rule_has_name_fault state (definition_step name t) = is_no_new_constant state name
rule_has_name_fault state _ = false

abbrev pub has_name_fault : LogState → LogLine → Bool
has_name_fault state (type_variable_line name) = not (is_type_variable_name name)
has_name_fault state (declared_type_line name) = not (is_declared_type_name name)
has_name_fault state (variable_line name ty) = not (is_identifier name)
has_name_fault state (constant_line name ty) = not (is_constant_name name)
has_name_fault state (new_type_line name) = not (is_declared_type_name name && is_new_name state.theory name)
has_name_fault state (new_constant_line name ty) = is_no_new_constant state name
has_name_fault state (theorem_line rule) = rule_has_name_fault state rule
has_name_fault state (claim_line name i c hs) = not (is_identifier name)
has_name_fault state _ = false

-- `type`: a type that was not declared, parts that do not fit, and another thing than a variable, a type variable or a
-- formula where one has to stand

-- a function of the first type takes arguments of the second
abbrev pub takes : HolType → HolType → Bool
takes (function_type domain codomain) argument = type_eq domain argument
takes _ argument = false

-- a pair of INST: a new term for a variable of its type
abbrev pub is_replacement : Nameless × Nameless → Bool
is_replacement pair = is_free_variable pair.1 && type_eq (term_type pair.0) (term_type pair.1)

abbrev pub are_equations : LogState → ℕ → ℕ → Bool
are_equations state i j = is_equation (conclusion_at state i) && is_equation (conclusion_at state j)

abbrev pub rule_has_type_fault : LogState → LogRule → Bool
rule_has_type_fault state (mk_comb_step i j) =
    are_equations state i j && not (takes (side_type (conclusion_at state i)) (side_type (conclusion_at state j)))
rule_has_type_fault state (abs_step t i) = not (is_free_variable (term_at state t))
rule_has_type_fault state (assume_step t) = not (type_eq (type_of_term_at state t) bool_type)
rule_has_type_fault state (inst_step i pairs) = not (list_all is_replacement (term_pairs_at state pairs))
rule_has_type_fault state (inst_type_step i pairs) = not (replaces_type_variables (type_pairs_at state pairs))
rule_has_type_fault state _ = false

abbrev pub has_type_fault : LogState → LogLine → Bool
has_type_fault state (declared_type_line name) = not (is_declared state.theory name)
has_type_fault state (combination_line f a) = not (takes (type_of_term_at state f) (type_of_term_at state a))
has_type_fault state (abstraction_line v t) = not (is_free_variable (term_at state v))
has_type_fault state (theorem_line rule) = rule_has_type_fault state rule
has_type_fault state _ = false

-- `const`: a constant that is not there at an instance of its generic type

abbrev pub has_constant_fault : LogState → LogLine → Bool
has_constant_fault state (constant_line name ty) = not (knows_constant state.theory name (type_at state ty))
has_constant_fault state _ = false

-- `rule`: another condition of a rule, of a definition or of a declared constant

-- the variable that a term is, is free in one of the terms
abbrev pub is_free_in_any : Nameless → List Nameless → Bool
is_free_in_any variable terms = list_any (occurs_free (variable_name variable) (term_type variable)) terms

-- an abstraction that is applied to a variable that is not free in its body
abbrev pub is_trivial_redex : Nameless → Bool
is_trivial_redex (app (lam ty body) (free name s)) = not (occurs_free name s body)
is_trivial_redex _ = false

abbrev pub rule_has_rule_fault : LogState → LogRule → Bool
rule_has_rule_fault state (trans_step i j) =
    not (are_equations state i j && same_term (right_side (conclusion_at state i)) (left_side (conclusion_at state j)))
rule_has_rule_fault state (mk_comb_step i j) = not (are_equations state i j)
rule_has_rule_fault state (abs_step t i) = not (is_equation (conclusion_at state i)) || is_free_in_any (term_at state t) (hypotheses_at state i)
rule_has_rule_fault state (beta_step t) = not (is_trivial_redex (term_at state t))
rule_has_rule_fault state (eq_mp_step i j) = not (is_equation (conclusion_at state i) && same_term (left_side (conclusion_at state i)) (conclusion_at state j))
rule_has_rule_fault state (definition_step name t) = not (has_no_free (term_at state t) && reflects_nameless (type_of_term_at state t) (term_at state t))
rule_has_rule_fault state _ = false

abbrev pub has_rule_fault : LogState → LogLine → Bool
has_rule_fault state (new_constant_line name ty) = not (is_fixed (type_at state ty))
has_rule_fault state (theorem_line rule) = rule_has_rule_fault state rule
has_rule_fault state _ = false

-- `claim`: another sequent than the theorem's

abbrev pub has_claim_fault : LogState → LogLine → Bool
has_claim_fault state (claim_line name i c hs) =
    not (same_term (term_at state c) (conclusion_at state i) && same_terms (set_of (terms_at state hs)) (hypotheses_at state i))
has_claim_fault state _ = false

-- `large`: a type, a term, a sequent or the theory passes a limit

abbrev pub sequent_fits : Sequent → Bool
sequent_fits sequent = nameless_within_limits sequent.conclusion && list_all nameless_within_limits sequent.hypotheses

abbrev pub has_size_fault : LogState → LogLine → Bool
has_size_fault state line =
    not (list_all type_fits (new_types state line)
    && list_all nameless_within_limits (new_terms state line)
    && list_all sequent_fits (new_theorems state line)
    && nat_le (length (new_entries state line) + length state.theory) DEFINITIONS_LIMIT)

-- `end`: a line after the last one, and a last line with another number than that of the claims

abbrev pub has_end_fault : LogState → LogLine → Bool
has_end_fault state (end_line count) = state.is_ended || not (nat_eq count (length state.claims))
has_end_fault state _ = state.is_ended

-- the first of the causes that applies
abbrev pub first_applying : List (Bool × Cause) → Option Cause
first_applying [] = None
first_applying (test ∷ rest) = if test.0 then Some test.1 else first_applying rest

-- each cause with whether it applies to a line after the lines before it
abbrev pub cause_tests : LogState → LogLine → List (Bool × Cause)
cause_tests state line =
    (has_shape_fault state line, Shape)
    ∷ (has_number_fault state line, Number)
    ∷ (has_name_fault state line, Name)
    ∷ (has_type_fault state line, Kind)
    ∷ (has_constant_fault state line, Const)
    ∷ (has_rule_fault state line, Rule)
    ∷ (has_claim_fault state line, Claim)
    ∷ (has_size_fault state line, Large)
    ∷ (has_end_fault state line, End)
    ∷ []

-- why the line is refused, where it is
abbrev pub first_cause : LogState → LogLine → Option Cause
first_cause state line = first_applying (cause_tests state line)
