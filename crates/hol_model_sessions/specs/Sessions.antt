-- Which answers the commands of a script may have, and what a run writes.
use Rattle.std.specs.Prelude.{◌≡◌, ℕ, Bool, not, nat_eq, List, [], ◌∷◌, ◌++◌, Option, None, Some, Result, Ok, Err, codes, if◌then◌else◌}
use Rattle.std.specs.Str.{bytes_eq}
use Rattle.std.specs.List.{ends_with}
use Rattle.hol_model.specs.declared.fault.Fault.{Fault}
use Rattle.hol_model.specs.declared.fault.Fault.TheVariants.{UnknownName}
use Rattle.hol_model_rules.specs.declared.rule_name.RuleName.{RuleName}
use Rattle.hol_model.specs.Terms.HolType.{HolType, type_variable}
use Rattle.hol_model.specs.Terms.NamedTerm.{NamedTerm}
use Rattle.hol_model.specs.Logic.Theory.{Theory, generic_type}
use Rattle.hol_model.specs.Logic.KnownTerm.{is_declared}
use Rattle.hol_model.specs.Kernel.Outcome.{given}
use Rattle.hol_model.specs.Kernel.Theorem.{Theorem}
use Rattle.hol_model.specs.Kernel.Rules.{define_outcome, new_const_outcome}
use Rattle.hol_model.specs.Kernel.Instantiation.{inst_refusal, IsInst, inst_type_refusal, IsInstType}
use Rattle.hol_model.specs.Logic.Logic.{logical_definitions}
use Rattle.hol_model.specs.Derived.Prelude.{stored_theorems}
use Rattle.hol_model.specs.Derived.InferenceRules.{InferenceRule}
use Rattle.hol_model.specs.Texts.TypeGrammar.{TypeTree}
use Rattle.hol_model.specs.Texts.TermGrammar.{TermTree}
use Rattle.hol_model.specs.Texts.Reading.{Scope, type_meaning, meaning, ◌>>=◌}
use Rattle.hol_model_sessions.specs.Commands.{RuleTree, by_name, by_inst, by_inst_type}
use Rattle.hol_model_rules.specs.RuleOutcomes.{rule_with, IsOutcome}

-- what a session keeps: the entries of its theory, the declared variables and the stored theorems
pub record State : Type 0 where
  pub theory : Theory
  pub variables : List ℕ → Option HolType
  pub theorems : List ℕ → Option Theorem

-- what the names of a text stand for in a state
abbrev pub scope_in : State → Scope
scope_in state = record { generic_type = generic_type state.theory; variable_type = state.variables; declares_type = is_declared state.theory }

-- the state with one more theorem
abbrev pub with_theorem : State → List ℕ → Theorem → State
with_theorem state name theorem = record state { theorems = λ other. if bytes_eq name other then Some theorem else state.theorems other }

-- the state with these theorems under their names, one after another
abbrev pub with_theorems : State → List (List ℕ × Theorem) → State
with_theorems state [] = state
with_theorems state (named ∷ others) = with_theorems (with_theorem state named.0 named.1) others

-- the state in which a script begins: the logical constants are defined, and the theorems of the prelude stored
abbrev pub start : State
start = with_theorems (record { theory = logical_definitions; variables = λ _. None; theorems = λ _. None }) stored_theorems

-- the state with a declared variable, in place of an earlier one of the name
abbrev pub with_variable : State → List ℕ → HolType → State
with_variable state name ty = record state { variables = λ other. if bytes_eq name other then Some ty else state.variables other }

-- the state over another theory
abbrev pub over_theory : State → Theory → State
over_theory state theory = record state { theory = theory }

-- ---- rules

-- the replacement that a pair of INST is
abbrev pub replacement : Scope → TermTree × TermTree → Result (NamedTerm × NamedTerm) Fault
replacement scope pair = meaning scope [] pair.0 >>= λ new. meaning scope [] pair.1 >>= λ old. Ok (new, old)

-- the replacement that a pair of INST_TYPE is
abbrev pub type_replacement : Scope → TypeTree × List ℕ → Result (HolType × HolType) Fault
type_replacement scope pair = type_meaning scope pair.0 >>= λ new. Ok (new, type_variable pair.1)

-- what each of a list is read as, from left to right
abbrev pub each : {A B : Type 0} → (A → Result B Fault) → List A → Result (List B) Fault
each read [] = Ok []
each read (x ∷ xs) = read x >>= λ first. each read xs >>= λ others. Ok (first ∷ others)

-- what was read, and then the stored theorem of a name
abbrev pub with_stored : {A : Type 0} → Result A Fault → State → List ℕ → Result (A × Theorem) Fault
with_stored read state name = read >>= λ theta. given (state.theorems name) UnknownName (λ theorem. Ok (theta, theorem))

-- the answer is the refusal, where there is one, else a theorem of which the fact holds
abbrev pub IsSettled : Option Fault → (Theorem → Type 0) → Result Theorem Fault → Type 0
IsSettled refusal fact (Ok theorem) = (refusal ≡ None) × fact theorem
IsSettled refusal fact (Err fault) = refusal ≡ Some fault

-- the answer for what was read, by the refusal and the fact of a rule
abbrev pub IsAnswerFor : {A : Type 0} → (A → Theorem → Option Fault) → (A → Theorem → Theorem → Type 0) → Result (A × Theorem) Fault → Result Theorem Fault → Type 0
IsAnswerFor refusal fact (Ok read) answer = IsSettled (refusal read.0 read.1) (fact read.0 read.1) answer
IsAnswerFor refusal fact (Err fault) answer = answer ≡ Err fault

-- the stored theorem of a name
abbrev pub theorem_named : State → List ℕ → Result Theorem Fault
theorem_named state name = given (state.theorems name) UnknownName (λ theorem. Ok theorem)

-- the terms of texts, and then the stored theorems of names
abbrev pub arguments_in : State → List TermTree → List (List ℕ) → Result (List NamedTerm × List Theorem) Fault
arguments_in state trees names = each (meaning (scope_in state) []) trees >>= λ terms. each (theorem_named state) names >>= λ theorems. Ok (terms, theorems)

-- the rule with these terms answers on these theorems by its own outcome
abbrev pub IsOutcomeWith : Theory → Option InferenceRule → List Theorem → Result Theorem Fault → Type 0
IsOutcomeWith theory (Some rule) theorems answer = IsOutcome theory rule theorems answer
IsOutcomeWith theory None theorems answer = ⊥

-- the answer for what was read
abbrev pub IsNamedAnswer : Theory → RuleName → Result (List NamedTerm × List Theorem) Fault → Result Theorem Fault → Type 0
IsNamedAnswer theory rule (Ok read) answer = IsOutcomeWith theory (rule_with rule read.0) read.1 answer
IsNamedAnswer theory rule (Err fault) answer = answer ≡ Err fault

-- what a rule answers: its arguments from left to right, then the rule
abbrev pub IsRuleAnswer : State → RuleTree → Result Theorem Fault → Type 0
IsRuleAnswer state (by_name rule trees names) answer = IsNamedAnswer state.theory rule (arguments_in state trees names) answer
IsRuleAnswer state (by_inst pairs a) answer =
    IsAnswerFor (inst_refusal state.theory) (IsInst state.theory) (with_stored (each (replacement (scope_in state)) pairs) state a) answer
IsRuleAnswer state (by_inst_type pairs a) answer =
    IsAnswerFor (inst_type_refusal state.theory) (IsInstType state.theory) (with_stored (each (type_replacement (scope_in state)) pairs) state a) answer

-- ---- commands

-- a name that `thm` may give: names that end in `_def` belong to definitions
abbrev pub is_theorem_name : List ℕ → Bool
is_theorem_name name = not (ends_with nat_eq name (codes "_def"))

-- the name under which the theorem of a definition is stored
abbrev pub definition_name : List ℕ → List ℕ
definition_name name = name ++ codes "_def"

-- what `def` gives: the term, then the definition
abbrev pub def_outcome : State → List ℕ → TermTree → Result Theorem Fault
def_outcome state name tree = meaning (scope_in state) [] tree >>= λ term. define_outcome state.theory name term

-- the state with the theorem of a definition, over the theory with it
abbrev pub with_definition : State → List ℕ → Theorem → State
with_definition state name theorem = with_theorem (over_theory state theorem.theory) (definition_name name) theorem

-- what `newconst` gives: the type, then the theory with the constant
abbrev pub newconst_outcome : State → List ℕ → TypeTree → Result Theory Fault
newconst_outcome state name tree = type_meaning (scope_in state) tree >>= λ ty. new_const_outcome state.theory name ty
