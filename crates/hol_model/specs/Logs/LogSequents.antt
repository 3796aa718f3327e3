-- What an accepted line of a proof log adds to what the lines before it gave.
use Rattle.std.specs.Prelude.{ℕ, List, [], ◌∷◌, ◌++◌, Bool, true, false, ◌||◌, map, find}
use Rattle.std.specs.Option.{option_map_or}
use Rattle.std.specs.Str.{bytes_eq}
use Rattle.hol_model.specs.Terms.HolType.{HolType, type_variable, bool_type, function_type, declared_type, type_instance_of, domain_of}
use Rattle.hol_model.specs.Terms.Nameless.{Nameless, free, const, app, lam, same_term}
use Rattle.hol_model.specs.Terms.Substitution.{close, fill, put, instantiate, TermInstance}
use Rattle.hol_model.specs.Logic.Theory.{Theory, definition, declaration_of_type, declaration_of_constant, equality_name}
use Rattle.hol_model.specs.Logic.Derivable.{nameless_equation, without, eta_axiom, select_hypothesis, select_conclusion}
use Rattle.hol_model.specs.Goals.Goals.{Sequent}
use Rattle.hol_model.specs.Logs.LogLine.{LogRule, LogLine}
use Rattle.hol_model.specs.Logs.LogLine.LogRule.{refl_step, trans_step, mk_comb_step, abs_step, beta_step, assume_step, eq_mp_step, deduct_step, inst_step, inst_type_step, eta_step, select_step}
use Rattle.hol_model.specs.Logs.LogLine.LogRule.{definition_step}
use Rattle.hol_model.specs.Logs.LogLine.LogLine.{type_variable_line, bool_line, function_type_line, declared_type_line, variable_line, constant_line, combination_line, abstraction_line}
use Rattle.hol_model.specs.Logs.LogLine.LogLine.{new_type_line, new_constant_line, theorem_line, claim_line, end_line}
use Rattle.hol_model.specs.Logs.LogState.{LogState, LogClaim, set_of, type_at, term_at, conclusion_at, hypotheses_at, term_type, type_of_term_at, terms_at, term_pairs_at, type_pairs_at}

-- forms of terms

abbrev pub is_free_variable : Nameless → Bool
is_free_variable (free name ty) = true
is_free_variable _ = false

-- the name of a free variable
abbrev pub variable_name : Nameless → List ℕ
variable_name (free name ty) = name
variable_name _ = []

-- the term is an equation; its left side and its right side
abbrev pub is_equation : Nameless → Bool
is_equation (app (app (const name ty) left) right) = bytes_eq name equality_name
is_equation _ = false

abbrev pub left_side : Nameless → Nameless
left_side (app (app f left) right) = left
left_side other = other

abbrev pub right_side : Nameless → Nameless
right_side (app f right) = right
right_side other = other

-- the type of the sides of an equation
abbrev pub side_type : Nameless → HolType
side_type (app (app (const name ty) left) right) = domain_of ty
side_type _ = bool_type

-- the body of an abstraction that is applied, with the argument in it
abbrev pub redex_body : Nameless → Nameless
redex_body (app (lam ty body) argument) = fill argument body
redex_body other = other

-- the equation of two terms of the type of the first
abbrev pub equation_of : Nameless → Nameless → Nameless
equation_of left right = nameless_equation (term_type left) left right

-- the abstraction over the variable that a term is
abbrev pub abstraction_over : Nameless → Nameless → Nameless
abstraction_over variable body = lam (term_type variable) (close (variable_name variable) (term_type variable) body)

-- what a list of pairs (new, old) puts for a variable: the first pair for it counts
abbrev pub term_instance_of : List (Nameless × Nameless) → TermInstance
term_instance_of pairs name ty = option_map_or (λ pair. pair.0) (find (λ pair. same_term pair.1 (free name ty)) pairs) (free name ty)

-- theorems

abbrev pub supposing : List Nameless → Nameless → Sequent
supposing hypotheses conclusion = record { hypotheses = set_of hypotheses; conclusion = conclusion }

-- the sequent of a rule over earlier theorems
abbrev pub sequent_of : LogState → LogRule → Sequent
sequent_of state (refl_step t) = supposing [] (equation_of (term_at state t) (term_at state t))
sequent_of state (trans_step i j) =
    supposing (hypotheses_at state i ++ hypotheses_at state j) (equation_of (left_side (conclusion_at state i)) (right_side (conclusion_at state j)))
sequent_of state (mk_comb_step i j) =
    supposing (hypotheses_at state i ++ hypotheses_at state j)
    (equation_of (app (left_side (conclusion_at state i)) (left_side (conclusion_at state j))) (app (right_side (conclusion_at state i)) (right_side (conclusion_at state j))))
sequent_of state (abs_step t i) =
    supposing (hypotheses_at state i)
    (equation_of (abstraction_over (term_at state t) (left_side (conclusion_at state i))) (abstraction_over (term_at state t) (right_side (conclusion_at state i))))
sequent_of state (beta_step t) = supposing [] (equation_of (term_at state t) (redex_body (term_at state t)))
sequent_of state (assume_step t) = supposing (term_at state t ∷ []) (term_at state t)
sequent_of state (eq_mp_step i j) = supposing (hypotheses_at state i ++ hypotheses_at state j) (right_side (conclusion_at state i))
sequent_of state (deduct_step i j) =
    supposing (without (conclusion_at state j) (hypotheses_at state i) ++ without (conclusion_at state i) (hypotheses_at state j))
    (equation_of (conclusion_at state i) (conclusion_at state j))
sequent_of state (inst_step i pairs) =
    let theta = term_instance_of (term_pairs_at state pairs) in supposing (map (put theta) (hypotheses_at state i)) (put theta (conclusion_at state i))
sequent_of state (inst_type_step i pairs) =
    let tau = type_instance_of (type_pairs_at state pairs) in supposing (map (instantiate tau) (hypotheses_at state i)) (instantiate tau (conclusion_at state i))
sequent_of state eta_step = supposing [] eta_axiom
sequent_of state select_step = supposing (select_hypothesis ∷ []) select_conclusion
sequent_of state (definition_step name t) = supposing [] (equation_of (const name (type_of_term_at state t)) (term_at state t))

abbrev pub new_theorems : LogState → LogLine → List Sequent
new_theorems state (theorem_line rule) = sequent_of state rule ∷ []
new_theorems state _ = []

-- types

abbrev pub new_types : LogState → LogLine → List HolType
new_types state (type_variable_line name) = type_variable name ∷ []
new_types state bool_line = bool_type ∷ []
new_types state (function_type_line a b) = function_type (type_at state a) (type_at state b) ∷ []
new_types state (declared_type_line name) = declared_type name ∷ []
new_types state _ = []

-- terms

abbrev pub new_terms : LogState → LogLine → List Nameless
new_terms state (variable_line name ty) = free name (type_at state ty) ∷ []
new_terms state (constant_line name ty) = const name (type_at state ty) ∷ []
new_terms state (combination_line f a) = app (term_at state f) (term_at state a) ∷ []
new_terms state (abstraction_line v t) = abstraction_over (term_at state v) (term_at state t) ∷ []
new_terms state _ = []

-- entries of the theory

abbrev pub rule_entries : LogState → LogRule → Theory
rule_entries state (definition_step name t) = definition name (type_of_term_at state t) (term_at state t) ∷ []
rule_entries state _ = []

abbrev pub new_entries : LogState → LogLine → Theory
new_entries state (new_type_line name) = declaration_of_type name ∷ []
new_entries state (new_constant_line name ty) = declaration_of_constant name (type_at state ty) ∷ []
new_entries state (theorem_line rule) = rule_entries state rule
new_entries state _ = []

-- claims

abbrev pub new_claims : LogState → LogLine → List LogClaim
new_claims state (claim_line name i c hs) = record { name = name; sequent = supposing (terms_at state hs) (term_at state c) } ∷ []
new_claims state _ = []

abbrev pub ends : LogLine → Bool
ends (end_line count) = true
ends _ = false

-- what the lines up to an accepted one have given
abbrev pub after_line : LogState → LogLine → LogState
after_line state line = record {
  version = state.version;
  types = state.types ++ new_types state line;
  terms = state.terms ++ new_terms state line;
  theorems = state.theorems ++ new_theorems state line;
  theory = new_entries state line ++ state.theory;
  claims = state.claims ++ new_claims state line;
  is_ended = state.is_ended || ends line;
}
