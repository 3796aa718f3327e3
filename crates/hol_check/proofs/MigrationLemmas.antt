-- An accepted log stays accepted under the header of the second version.
use Rattle.std.proofs.Common.{◌≡◌, ℕ, ◌+◌, List, [], ◌∷◌, ◌++◌, Option, Some, None, Ok, Err, Bool, true, false, if◌then◌else◌, refl, sym, ap, ◌∙◌, subst, drop, length, ◌≤◌}
use Rattle.hol_model.specs.declared.fault.Fault.{Fault}
use Rattle.hol_model.specs.declared.fault.Fault.TheVariants.{Memory, LogFault}
use Rattle.hol_model.specs.declared.fault.Cause.{Cause}
use Rattle.hol_model.specs.declared.fault.Cause.TheVariants.{Shape}
use Rattle.hol_model.specs.Logs.LogLine.{LogVersion, LogRule, LogLine}
use Rattle.hol_model.specs.Logs.LogLine.LogVersion.{first_version, second_version}
use Rattle.hol_model.specs.Logs.LogLine.LogRule.{refl_step, trans_step, mk_comb_step, abs_step, beta_step, assume_step, eq_mp_step, deduct_step, inst_step, inst_type_step, eta_step, select_step}
use Rattle.hol_model.specs.Logs.LogLine.LogRule.{definition_step}
use Rattle.hol_model.specs.Logs.LogLine.LogLine.{header_line, type_variable_line, bool_line, function_type_line, declared_type_line, variable_line, constant_line, combination_line}
use Rattle.hol_model.specs.Logs.LogLine.LogLine.{abstraction_line, new_type_line, new_constant_line, theorem_line, claim_line, end_line}
use Rattle.hol_model.specs.Logs.LogState.{LogState, LogClaim, first_state}
use Rattle.hol_model.specs.Logs.LogSequents.{after_line}
use Rattle.hol_model.specs.Logs.LogFaults.{first_cause, is_first_version}
use Rattle.hol_model.specs.Logs.LogText.{ReadLine, LogOutcome, from_line, at_last, at_end, unless_refused, log_outcome}
use Rattle.hol_logtext.specs.LineText.{line_text, line_bytes}
use Rattle.hol_logtext.specs.LogBytes.{log_text}
use Rattle.hol_check.specs.Reading.{IsRead, read_whole}
use Rattle.hol_check.specs.LogAnswers.{log_answer, answer_from, TellsRefusal, TellsInput}
use Rattle.hol_model.specs.declared.limits.TheConstants.{TEXT_BYTES_LIMIT}
use Rattle.hol_model.specs.Texts.KnownText.{Tells}
use Rattle.hol_check.specs.Checking.{HasClaims}
use Rattle.hol_check.specs.Migration.{in_second, IsMigrated, IsMigration, MigrationKeepsClaims, IsTextRefusal}
use Rattle.hol_check.proofs.LogAnswerLemmas.{refusal_told, memory_told}
use Rattle.hol_logtext.proofs.LogLemmas.{log_text_line}

-- a test that fails does not change what is the first cause
none_after : (test : Bool) (cause : Cause) (rest : Option Cause) → (if test then Some cause else rest) ≡ None → rest ≡ None
none_after true cause rest none = cc
none_after false cause rest none = none

-- the second version refuses no line that the first accepts

theorem_in_second : (state : LogState) (rule : LogRule) → first_cause state (theorem_line rule) ≡ None → first_cause (in_second state) (theorem_line rule) ≡ None
theorem_in_second state (refl_step t) none = none
theorem_in_second state (trans_step i j) none = none
theorem_in_second state (mk_comb_step i j) none = none
theorem_in_second state (abs_step t i) none = none
theorem_in_second state (beta_step t) none = none
theorem_in_second state (assume_step t) none = none
theorem_in_second state (eq_mp_step i j) none = none
theorem_in_second state (deduct_step i j) none = none
theorem_in_second state (inst_step i pairs) none = none
theorem_in_second state (inst_type_step i pairs) none = none
theorem_in_second state eta_step none = none
theorem_in_second state select_step none = none
theorem_in_second state (definition_step name t) none = none

line_in_second : (state : LogState) (line : LogLine) → first_cause state line ≡ None → first_cause (in_second state) line ≡ None
line_in_second state (header_line version) none = none
line_in_second state (type_variable_line name) none = none
line_in_second state bool_line none = none
line_in_second state (function_type_line a b) none = none
line_in_second state (declared_type_line name) none = none_after (is_first_version state.version) Shape _ none
line_in_second state (variable_line name ty) none = none
line_in_second state (constant_line name ty) none = none
line_in_second state (combination_line f a) none = none
line_in_second state (abstraction_line v t) none = none
line_in_second state (new_type_line name) none = none_after (is_first_version state.version) Shape _ none
line_in_second state (new_constant_line name ty) none = none_after (is_first_version state.version) Shape _ none
line_in_second state (theorem_line rule) none = theorem_in_second state rule none
line_in_second state (claim_line name i c hs) none = none
line_in_second state (end_line count) none = none

-- and adds the same

after_theorem_in_second : (state : LogState) (rule : LogRule) → after_line (in_second state) (theorem_line rule) ≡ in_second (after_line state (theorem_line rule))
after_theorem_in_second state (refl_step t) = refl
after_theorem_in_second state (trans_step i j) = refl
after_theorem_in_second state (mk_comb_step i j) = refl
after_theorem_in_second state (abs_step t i) = refl
after_theorem_in_second state (beta_step t) = refl
after_theorem_in_second state (assume_step t) = refl
after_theorem_in_second state (eq_mp_step i j) = refl
after_theorem_in_second state (deduct_step i j) = refl
after_theorem_in_second state (inst_step i pairs) = refl
after_theorem_in_second state (inst_type_step i pairs) = refl
after_theorem_in_second state eta_step = refl
after_theorem_in_second state select_step = refl
after_theorem_in_second state (definition_step name t) = refl

after_in_second : (state : LogState) (line : LogLine) → after_line (in_second state) line ≡ in_second (after_line state line)
after_in_second state (header_line version) = refl
after_in_second state (type_variable_line name) = refl
after_in_second state bool_line = refl
after_in_second state (function_type_line a b) = refl
after_in_second state (declared_type_line name) = refl
after_in_second state (variable_line name ty) = refl
after_in_second state (constant_line name ty) = refl
after_in_second state (combination_line f a) = refl
after_in_second state (abstraction_line v t) = refl
after_in_second state (new_type_line name) = refl
after_in_second state (new_constant_line name ty) = refl
after_in_second state (theorem_line rule) = after_theorem_in_second state rule
after_in_second state (claim_line name i c hs) = refl
after_in_second state (end_line count) = refl

-- later lines

at_end_in_second : (ended : Bool) (number : ℕ) (state last : LogState) → at_end ended number state ≡ Ok last → at_end ended number (in_second state) ≡ Ok (in_second last)
at_end_in_second true number state last accepted = let same : state ≡ last = cc in ap (λ (s : LogState). Ok (in_second s)) same
at_end_in_second false number state last accepted = cc

at_last_in_second : (rest : Option ReadLine) (number : ℕ) (state last : LogState) → at_last number state rest ≡ Ok last → at_last number (in_second state) rest ≡ Ok (in_second last)
at_last_in_second None number state last accepted = at_end_in_second state.is_ended number state last accepted
at_last_in_second (Some cut) number state last accepted = cc

-- an accepted line has no cause, and the lines behind it are accepted
none_refused : (cause : Option Cause) (number : ℕ) (later : LogOutcome) (last : LogState) → unless_refused number cause later ≡ Ok last → (cause ≡ None) × (later ≡ Ok last)
none_refused None number later last accepted = (refl, accepted)
none_refused (Some cause) number later last accepted = cc

pub lines_in_second : (rest : Option ReadLine) (lines : List ReadLine) (number : ℕ) (state last : LogState) → from_line rest lines number state ≡ Ok last
    → from_line rest lines number (in_second state) ≡ Ok (in_second last)
lines_in_second rest [] number state last accepted = at_last_in_second rest number state last accepted
lines_in_second rest (None ∷ more) number state last accepted = cc
lines_in_second rest (Some line ∷ more) number state last accepted =
    let split = none_refused (first_cause state line) number (from_line rest more (number + 1) (after_line state line)) last accepted in
    let later = lines_in_second rest more (number + 1) (after_line state line) last split.1 in
    ap (λ (cause : Option Cause). unless_refused number cause (from_line rest more (number + 1) (after_line (in_second state) line))) (line_in_second state line split.0)
    ∙ ap (from_line rest more (number + 1)) (after_in_second state line) ∙ later

-- the header

header_answer : (version : LogVersion) (rest : List ℕ) → log_answer (line_bytes (header_line version) ++ rest) ≡ answer_from 2 (first_state version) rest
header_answer first_version rest = ap log_outcome (log_text_line (line_text (header_line first_version)) rest refl)
header_answer second_version rest = ap log_outcome (log_text_line (line_text (header_line second_version)) rest refl)

accepted_in_second : (old new : List ℕ) (state : LogState) → log_answer old ≡ Ok state → IsMigrated old new → log_answer new ≡ Ok (in_second state)
accepted_in_second old new state accepted migrated =
    let text = log_text migrated.rest in
    let before : from_line text.rest text.lines 2 (first_state migrated.version) ≡ Ok state = sym (header_answer migrated.version migrated.rest) ∙ sym (ap log_answer migrated.was.headed) ∙ accepted in
    ap log_answer migrated.is.headed ∙ header_answer second_version migrated.rest ∙ lines_in_second text.rest text.lines 2 (first_state migrated.version) state before

-- what stands behind a header is one text
one_rest : (first second : LogVersion) (rest other : List ℕ) → line_bytes (header_line first) ++ rest ≡ line_bytes (header_line second) ++ other → rest ≡ other
one_rest first_version first_version rest other same = ap (drop 11) same
one_rest first_version second_version rest other same = ap (drop 11) same
one_rest second_version first_version rest other same = ap (drop 11) same
one_rest second_version second_version rest other same = ap (drop 11) same

migrated_again : (old new newer : List ℕ) → IsMigrated old new → IsMigrated new newer → newer ≡ new
migrated_again old new newer first second =
    let same : second.rest ≡ first.rest = one_rest second.version second_version second.rest first.rest (sym second.was.headed ∙ first.is.headed) in
    second.is.headed ∙ ap (λ rest. line_bytes (header_line second_version) ++ rest) same ∙ sym first.is.headed

pub migration_keeps_claims : MigrationKeepsClaims
migration_keeps_claims = record { accepted = accepted_in_second; again = migrated_again }

-- what was read and migrated

pub text_accepted : (text : List ℕ) (claims : List LogClaim) (checked : HasClaims (Some text) claims) → log_answer text ≡ Ok checked.state
text_accepted text claims checked = ap log_answer checked.read.whole ∙ checked.accepted

header_length : (version : LogVersion) (rest : List ℕ) → length (line_bytes (header_line second_version) ++ rest) ≡ length (line_bytes (header_line version) ++ rest)
header_length first_version rest = refl
header_length second_version rest = refl

same_length : (old new : List ℕ) → IsMigrated old new → length new ≡ length old
same_length old new migrated = ap length migrated.is.headed ∙ header_length migrated.version migrated.rest ∙ sym (ap length migrated.was.headed)

pub is_migration : (input : Option (List ℕ)) (text new : List ℕ) (claims : List LogClaim) → MigrationKeepsClaims → Tells input text → length text ≤ TEXT_BYTES_LIMIT
    → HasClaims (Some text) claims → IsMigrated text new → IsMigration input claims new
is_migration input text new claims keeps told within checked migrated = record {
  text = text;
  read = record { whole = told; within_limit = within };
  checked = checked;
  migrated = migrated;
  accepted = record {
    text = new;
    read = record { whole = refl; within_limit = subst (λ n. n ≤ TEXT_BYTES_LIMIT) (sym (same_length text new migrated)) within };
    state = in_second checked.state;
    accepted = keeps.accepted text new checked.state (text_accepted text claims checked) migrated;
    listed = checked.listed;
    legal = checked.legal;
    derivable = checked.derivable;
    hold = checked.hold;
  };
}

-- a text that is refused was the input
pub text_told : {T : Type 0} → (fault : Fault) (input left : Option (List ℕ)) (text : List ℕ) → IsRead input text → TellsRefusal (Some text) fault → IsTextRefusal fault
    → TellsInput {T = T} (Err fault) input left
text_told Memory input left text read refused is = memory_told (Err Memory) input left refl (read_whole read)
text_told (LogFault line cause) input left text read refused is =
    refusal_told input left line cause (record { text = text; read = read; refused = ap log_answer refused.read.whole ∙ refused.refused })
text_told fault input left text read refused is = absurd is
