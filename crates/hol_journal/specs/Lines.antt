-- The line of a proof log that a step becomes, and when the log gives the step's sequent there.
use Rattle.std.specs.Prelude.{◌≡◌, ◌≤◌, ℕ, List, map, length, true, false, None, nat_le}
use Rattle.hol_model.specs.declared.limits.TheConstants.{DEFINITIONS_LIMIT}
use Rattle.hol_model.specs.Terms.HolType.{HolType}
use Rattle.hol_model.specs.Terms.NamedTerm.{NamedTerm}
use Rattle.hol_model.specs.Terms.Nameless.{Nameless, image}
use Rattle.hol_model.specs.Logic.Theory.{Theory}
use Rattle.hol_model.specs.Logic.Legality.{is_new_name}
use Rattle.hol_model.specs.Logic.Derivable.{IsMember}
use Rattle.hol_model.specs.Goals.Goals.{Sequent}
use Rattle.hol_model.specs.Logs.LogLine.{LogRule, refl_step, trans_step, mk_comb_step, abs_step, beta_step, assume_step, eq_mp_step, deduct_step}
use Rattle.hol_model.specs.Logs.LogLine.{inst_step, inst_type_step, eta_step, select_step, definition_step}
use Rattle.hol_model.specs.Logs.LogLine.LogLine.{theorem_line}
use Rattle.hol_model.specs.Logs.LogState.{LogState, type_at, term_at, theorem_at}
use Rattle.hol_model.specs.Logs.LogSequents.{sequent_of}
use Rattle.hol_model.specs.Logs.LogFaults.{first_cause, is_no_type, is_no_term, is_no_theorem}
use Rattle.hol_journal.specs.Steps.{Step, by_refl, by_trans, by_mk_comb, by_abs, by_beta, by_assume, by_eq_mp, by_deduct, by_inst, by_inst_type}
use Rattle.hol_journal.specs.Steps.{by_eta, by_select, by_definition, JournalEntry, sequent_at, terms_of, types_of, entries_of}

-- the numbers that types, terms and the theorems of entries have in a log
pub record Numbering : Type 0 where
  pub of_type : HolType → ℕ
  pub of_term : NamedTerm → ℕ
  pub of_entry : ℕ → ℕ

abbrev pub term_pair : Numbering → NamedTerm × NamedTerm → ℕ × ℕ
term_pair numbers pair = (numbers.of_term pair.0, numbers.of_term pair.1)

abbrev pub type_pair : Numbering → HolType × HolType → ℕ × ℕ
type_pair numbers pair = (numbers.of_type pair.0, numbers.of_type pair.1)

-- the line of a step
abbrev pub line_of : Numbering → Step → LogRule
line_of numbers (by_refl term) = refl_step (numbers.of_term term)
line_of numbers (by_trans first second) = trans_step (numbers.of_entry first) (numbers.of_entry second)
line_of numbers (by_mk_comb first second) = mk_comb_step (numbers.of_entry first) (numbers.of_entry second)
line_of numbers (by_abs binder theorem) = abs_step (numbers.of_term binder) (numbers.of_entry theorem)
line_of numbers (by_beta term) = beta_step (numbers.of_term term)
line_of numbers (by_assume term) = assume_step (numbers.of_term term)
line_of numbers (by_eq_mp first second) = eq_mp_step (numbers.of_entry first) (numbers.of_entry second)
line_of numbers (by_deduct first second) = deduct_step (numbers.of_entry first) (numbers.of_entry second)
line_of numbers (by_inst theorem pairs) = inst_step (numbers.of_entry theorem) (map (term_pair numbers) pairs)
line_of numbers (by_inst_type theorem pairs) = inst_type_step (numbers.of_entry theorem) (map (type_pair numbers) pairs)
line_of numbers by_eta = eta_step
line_of numbers by_select = select_step
line_of numbers (by_definition name term) = definition_step name (numbers.of_term term)

-- the number names a type, a term, a sequent

pub record NamesType (state : LogState) (number : ℕ) (ty : HolType) : Type 0 where
  pub there : is_no_type state number ≡ false
  pub is : type_at state number ≡ ty

pub record NamesTerm (state : LogState) (number : ℕ) (term : Nameless) : Type 0 where
  pub there : is_no_term state number ≡ false
  pub is : term_at state number ≡ term

pub record NamesTheorem (state : LogState) (number : ℕ) (sequent : Sequent) : Type 0 where
  pub there : is_no_theorem state number ≡ false
  pub is : theorem_at state number ≡ sequent

-- the numbers name what the step names
pub record NamesParts (entries : List JournalEntry) (step : Step) (state : LogState) (numbers : Numbering) : Type 0 where
  pub types : (ty : HolType) → IsMember ty (types_of step) → NamesType state (numbers.of_type ty) ty
  pub terms : (term : NamedTerm) → IsMember term (terms_of step) → NamesTerm state (numbers.of_term term) (image term)
  pub theorems : (entry : ℕ) → IsMember entry (entries_of step) → NamesTheorem state (numbers.of_entry entry) (sequent_at entries entry)

-- the log goes on, and its theory has no name and no entry that the theory lacks
pub record MayGoOn (theory : Theory) (state : LogState) : Type 0 where
  pub is_not_ended : state.is_ended ≡ false
  pub within_limit : nat_le (length state.theory) DEFINITIONS_LIMIT ≡ true
  pub fewer : length state.theory ≤ length theory
  pub new_names : (name : List ℕ) → is_new_name theory name ≡ true → is_new_name state.theory name ≡ true

-- over a theory, after these entries, the line of the step is accepted in each log that has what it names, and gives the sequent
pub record Gives (theory : Theory) (entries : List JournalEntry) (step : Step) (sequent : Sequent) : Type 0 where
  pub accepted : (state : LogState) (numbers : Numbering) → MayGoOn theory state → NamesParts entries step state numbers
      → first_cause state (theorem_line (line_of numbers step)) ≡ None
  pub gives : (state : LogState) (numbers : Numbering) → NamesParts entries step state numbers → sequent_of state (line_of numbers step) ≡ sequent
