-- What the steps of a proof log make of earlier theorems, by numbers.
use Rattle.std.specs.Prelude.{◌≡◌, ◌⊎◌, ℕ, List, [], ◌∷◌, ◌++◌, Bool, false, not, ◌&&◌, ◌||◌, map, Option, Some, None, Result, Ok, Err, slice_get, IfOk, IfErr}
use Rattle.std.specs.List.{All, list_all}
use Rattle.std.proofs.Common.{Vec, Global}
use Rattle.hol_model.specs.declared.fault.Fault.{Fault}
use Rattle.hol_model.specs.declared.fault.Fault.TheVariants.{Memory, TooLarge}
use Rattle.hol_model.specs.declared.fault.Cause.{Cause}
use Rattle.hol_model.specs.declared.fault.Cause.TheVariants.{Name, Kind, Rule, Large}
use Rattle.hol_model.specs.Terms.HolType.{HolType, bool_type, type_eq, type_instance_of, replaces_type_variables}
use Rattle.hol_model.specs.Terms.Nameless.{Nameless, const, app, same_term}
use Rattle.hol_model.specs.Terms.Measures.{nameless_within_limits}
use Rattle.hol_model.specs.Terms.Substitution.{put, instantiate}
use Rattle.hol_model.specs.Logic.Derivable.{without, eta_axiom, select_hypothesis, select_conclusion}
use Rattle.hol_model.specs.Logic.Checks.{has_no_free, reflects_nameless}
use Rattle.hol_model.specs.Goals.Goals.{Sequent}
use Rattle.hol_model.specs.Logs.LogLine.{LogRule}
use Rattle.hol_model.specs.Logs.LogState.{LogState, set_of, term_type}
use Rattle.hol_model.specs.Logs.LogSequents.{is_free_variable, is_equation, left_side, right_side, side_type, redex_body, equation_of, abstraction_over, term_instance_of, supposing, sequent_of}
use Rattle.hol_model.specs.Logs.LogSequents.{rule_entries}
use Rattle.hol_model.specs.Logs.LogFaults.{takes, is_replacement, is_free_in_any, is_trivial_redex, sequent_fits, first_applying, rule_has_number_fault, rule_has_name_fault, rule_has_type_fault}
use Rattle.hol_model.specs.Logs.LogFaults.{rule_has_rule_fault}
use Rattle.hol_check_rules.specs.Hypotheses.{terms_in}
use Rattle.hol_check_rules.specs.State.{sequent_in, IsFittingTheorem}
use Rattle.hol_check_rules.specs.declared.state.Theorem.{Theorem}
use Rattle.hol_check_changes.specs.Forming.{IsFitting}

-- what is made of types, terms and hypotheses

-- the wanted type or term has the number; only memory that is used up refuses it
pub record IsNamedType (wanted : HolType) (result : Result ℕ Fault) (types : List HolType) : Type 0 where
  pub number : IfOk result (λ ty. slice_get types ty ≡ Some wanted)
  pub refused : IfErr result (λ fault. fault ≡ Memory)

pub record IsNamed (wanted : Nameless) (result : Result ℕ Fault) (terms : List Nameless) : Type 0 where
  pub number : IfOk result (λ new. slice_get terms new ≡ Some wanted)
  pub refused : IfErr result (λ fault. fault ≡ Memory)

-- the wanted terms are within the limits and have the numbers; only memory that is used up, or a limit that one of them
-- passes, refuses them
pub record AreFormed (wanted : List Nameless) (result : Result (Vec ℕ Global) Fault) (terms : List Nameless) : Type 0 where
  pub named : IfOk result (λ news. terms_in terms news.items ≡ wanted)
  pub fitting : IfOk result (λ news. All (IsFitting terms) news.items)
  pub refused : IfErr result (λ fault. (fault ≡ Memory) ⊎ ((fault ≡ TooLarge) × (list_all nameless_within_limits wanted ≡ false)))

-- the numbers are those of the terms in order, each once, and these are within the limits
pub record AreInOrder (terms : List Nameless) (numbers : List ℕ) (wanted : List Nameless) : Type 0 where
  pub named : terms_in terms numbers ≡ set_of wanted
  pub fitting : All (IsFitting terms) numbers

-- steps

-- which tests a step fails, and what it concludes
pub record Step : Type 0 where
  pub has_name_fault : Bool
  pub has_type_fault : Bool
  pub has_rule_fault : Bool
  pub sequent : Sequent

-- a rule over the state of a log
abbrev pub step_of : LogState → LogRule → Step
step_of state rule = record {
  has_name_fault = rule_has_name_fault state rule;
  has_type_fault = rule_has_type_fault state rule;
  has_rule_fault = rule_has_rule_fault state rule;
  sequent = sequent_of state rule;
}

-- the numbers of a rule name terms and theorems, and with these it is the step; it defines nothing
pub record IsStep (state : LogState) (rule : LogRule) (step : Step) : Type 0 where
  pub numbers : rule_has_number_fault state rule ≡ false
  pub is_step : step_of state rule ≡ step
  pub entries : rule_entries state rule ≡ []

-- why a step is refused, where it is
abbrev pub step_cause : Step → Option Cause
step_cause step =
    first_applying ((step.has_name_fault, Name) ∷ (step.has_type_fault, Kind) ∷ (step.has_rule_fault, Rule) ∷ (not (sequent_fits step.sequent), Large) ∷ [])

-- a step that nothing but a condition of its rule refuses
abbrev pub ruled : Bool → Sequent → Step
ruled fault sequent = record { has_name_fault = false; has_type_fault = false; has_rule_fault = fault; sequent = sequent }

-- the same with the types of its parts
abbrev pub typed : Bool → Bool → Sequent → Step
typed unfit fault sequent = record { has_name_fault = false; has_type_fault = unfit; has_rule_fault = fault; sequent = sequent }

-- a step without conditions
abbrev pub plain : Sequent → Step
plain sequent = ruled false sequent

-- the rules over terms and earlier theorems

abbrev pub are_equations : Sequent → Sequent → Bool
are_equations first second = is_equation first.conclusion && is_equation second.conclusion

abbrev pub refl_step : Nameless → Step
refl_step t = plain (supposing [] (equation_of t t))

abbrev pub trans_step : Sequent → Sequent → Step
trans_step first second =
    ruled (not (are_equations first second && same_term (right_side first.conclusion) (left_side second.conclusion)))
    (supposing (first.hypotheses ++ second.hypotheses) (equation_of (left_side first.conclusion) (right_side second.conclusion)))

abbrev pub mk_comb_step : Sequent → Sequent → Step
mk_comb_step first second =
    typed (are_equations first second && not (takes (side_type first.conclusion) (side_type second.conclusion))) (not (are_equations first second))
    (supposing (first.hypotheses ++ second.hypotheses)
    (equation_of (app (left_side first.conclusion) (left_side second.conclusion)) (app (right_side first.conclusion) (right_side second.conclusion))))

abbrev pub abs_step : Nameless → Sequent → Step
abs_step variable premise =
    typed (not (is_free_variable variable)) (not (is_equation premise.conclusion) || is_free_in_any variable premise.hypotheses)
    (supposing premise.hypotheses (equation_of (abstraction_over variable (left_side premise.conclusion)) (abstraction_over variable (right_side premise.conclusion))))

abbrev pub beta_step : Nameless → Step
beta_step t = ruled (not (is_trivial_redex t)) (supposing [] (equation_of t (redex_body t)))

abbrev pub assume_step : Nameless → Step
assume_step t = typed (not (type_eq (term_type t) bool_type)) false (supposing (t ∷ []) t)

abbrev pub eq_mp_step : Sequent → Sequent → Step
eq_mp_step first second =
    ruled (not (is_equation first.conclusion && same_term (left_side first.conclusion) second.conclusion))
    (supposing (first.hypotheses ++ second.hypotheses) (right_side first.conclusion))

abbrev pub deduct_step : Sequent → Sequent → Step
deduct_step first second =
    plain
    (supposing (without second.conclusion first.hypotheses ++ without first.conclusion second.hypotheses) (equation_of first.conclusion second.conclusion))

-- each term is changed
abbrev pub changed_step : (Nameless → Nameless) → Sequent → Step
changed_step change premise = plain (supposing (map change premise.hypotheses) (change premise.conclusion))

abbrev pub inst_step : Sequent → List (Nameless × Nameless) → Step
inst_step premise pairs =
    typed (not (list_all is_replacement pairs)) false
    (supposing (map (put (term_instance_of pairs)) premise.hypotheses) (put (term_instance_of pairs) premise.conclusion))

abbrev pub inst_type_step : Sequent → List (HolType × HolType) → Step
inst_type_step premise pairs =
    typed (not (replaces_type_variables pairs)) false
    (supposing (map (instantiate (type_instance_of pairs)) premise.hypotheses) (instantiate (type_instance_of pairs) premise.conclusion))

abbrev pub eta_step : Step
eta_step = plain (supposing [] eta_axiom)

abbrev pub select_step : Step
select_step = plain (supposing (select_hypothesis ∷ []) select_conclusion)

-- what a constant of a type may be defined as
abbrev pub is_definable : HolType → Nameless → Bool
is_definable ty body = has_no_free body && reflects_nameless ty body

-- the definition of a constant of a new name
abbrev pub definition_step : List ℕ → Nameless → Step
definition_step name body = ruled (not (is_definable (term_type body) body)) (supposing [] (equation_of (const name (term_type body)) body))

-- what a step answers

abbrev pub IsTaken : Step → List Nameless → Result Theorem Cause → Type 0
IsTaken step terms (Ok theorem) = (step_cause step ≡ None) × (sequent_in terms theorem ≡ step.sequent) × IsFittingTheorem terms theorem
IsTaken step terms (Err cause) = step_cause step ≡ Some cause

-- the step's theorem, or the first cause that refuses it; only memory that is used up gives neither
pub record Takes (step : Step) (result : Result (Result Theorem Cause) Fault) (terms : List Nameless) : Type 0 where
  pub taken : IfOk result (IsTaken step terms)
  pub refused : IfErr result (λ fault. fault ≡ Memory)
