-- Lemmas on a log that is judged line by line.
use Rattle.std.proofs.Common.{◌≡◌, ◌≤◌, ◌<◌, ℕ, ◌+◌, List, [], ◌∷◌, ◌++◌, Option, Some, None, Result, Ok, Err, IfOk, Bool, true, false, length, refl, sym, ap, ◌∙◌, subst, append_assoc, rules}
use Rattle.std.specs.Prelude.{⊤, IsErrOf, IsErrAnd, IfErr, IfSome, MatchBool, Contains}
use Rattle.std.proofs.lemmas.List.{length-append}
use Rattle.std.specs.Io.KnownBytes.{Consumes}
use Rattle.std.proofs.KnownBytes.{Consumes-nil}
use Rattle.hol_model.specs.declared.fault.Fault.{Fault}
use Rattle.hol_model.specs.declared.fault.Fault.TheVariants.{Memory, ReadFault, TooLong, LogFault}
use Rattle.hol_model.specs.declared.fault.Cause.{Cause}
use Rattle.hol_model.specs.declared.fault.Cause.TheVariants.{Header, Cut}
use Rattle.hol_model.specs.Logs.LogLine.{LogVersion}
use Rattle.hol_model.specs.Logs.LogState.{LogState, first_state}
use Rattle.hol_model.specs.Logs.LogText.{ReadLine, LogText, LogOutcome, from_line, at_last, no_line, dest_header, log_outcome}
use Rattle.hol_logtext.specs.Fields.{line_feed, has_line_feed}
use Rattle.hol_logtext.specs.LineReading.{read_text}
use Rattle.hol_logtext.specs.LogBytes.{log_text, last_part, with_line}
use Rattle.hol_logtext.proofs.LogLemmas.{log_text_line, log_text_last}
use Rattle.hol_model.specs.declared.limits.TheConstants.{TEXT_BYTES_LIMIT}
use Rattle.hol_check.specs.Reading.{Unread, IsUnread, IsLine, StaysWithin, TellsFailure, TellsLength, taken_within, read_whole}
use Rattle.hol_check.specs.LogAnswers.{log_answer, IsTakenText, LeadsTo, IsRefusedAt, IsUnderway, IsRefusedLog, TellsRefusal, TellsInput}

-- the bytes handed out, with a line and what follows it
with_rest : (handed line rest : List ℕ) → ((handed ++ line) ++ line_feed ∷ []) ++ rest ≡ handed ++ (line ++ line_feed ∷ rest)
with_rest handed line rest = append_assoc (handed ++ line) (line_feed ∷ []) rest ∙ append_assoc handed line (line_feed ∷ rest)

-- later lines

abbrev from_text : ℕ → LogState → LogText → LogOutcome
from_text number state text = from_line text.rest text.lines number state

taken_line : (text : LogText) (number : ℕ) (state now : LogState) (found : ReadLine) → IsTakenText state found (Ok tt) now
    → from_text number state (with_line found text) ≡ from_text (number + 1) now text
taken_line text number state now (Some line) taken = rw (taken.accepted, taken.after) refl
taken_line text number state now None taken = absurd taken

refused_line : (text : LogText) (number : ℕ) (state now : LogState) (found : ReadLine) (cause : Cause) → IsTakenText state found (Err cause) now
    → from_text number state (with_line found text) ≡ Err (number, cause)
refused_line text number state now (Some line) cause taken = rw taken refl
refused_line text number state now None cause taken = rw taken refl

pub leads_on : (handed line : List ℕ) (number : ℕ) (state now : LogState) → LeadsTo handed number state → has_line_feed line ≡ false
    → IsTakenText state (read_text line) (Ok tt) now → LeadsTo ((handed ++ line) ++ line_feed ∷ []) (number + 1) now
leads_on handed line number state now leads none taken = record {
  goes_on = λ rest. ap log_answer (with_rest handed line rest) ∙ leads.goes_on (line ++ line_feed ∷ rest)
      ∙ ap (from_text number state) (log_text_line line rest none) ∙ taken_line (log_text rest) number state now (read_text line) taken;
}

pub refused_on : (handed line : List ℕ) (number : ℕ) (state now : LogState) (cause : Cause) → LeadsTo handed number state → has_line_feed line ≡ false
    → IsTakenText state (read_text line) (Err cause) now → IsRefusedAt ((handed ++ line) ++ line_feed ∷ []) number cause
refused_on handed line number state now cause leads none taken = record {
  refused = λ rest. ap log_answer (with_rest handed line rest) ∙ leads.goes_on (line ++ line_feed ∷ rest)
      ∙ ap (from_text number state) (log_text_line line rest none) ∙ refused_line (log_text rest) number state now (read_text line) cause taken;
}

pub ended_on : (handed line : List ℕ) (number : ℕ) (state : LogState) → LeadsTo handed number state → has_line_feed line ≡ false
    → log_answer (handed ++ line) ≡ at_last number state (last_part line)
ended_on handed line number state leads none = leads.goes_on line ∙ ap (from_text number state) (log_text_last line none)

-- the first line

begun_text : (text : LogText) (found : ReadLine) (version : LogVersion) → dest_header found ≡ Some version → log_outcome (with_line found text) ≡ from_text 2 (first_state version) text
begun_text text found version header = rw header refl

headless_text : (text : LogText) (found : ReadLine) → dest_header found ≡ None → log_outcome (with_line found text) ≡ Err (1, Header)
headless_text text found header = rw header refl

pub leads_first : (line : List ℕ) (version : LogVersion) → has_line_feed line ≡ false → dest_header (read_text line) ≡ Some version → LeadsTo (([] ++ line) ++ line_feed ∷ []) 2 (first_state version)
leads_first line version none header = record {
  goes_on = λ rest. ap log_answer (with_rest [] line rest) ∙ ap log_outcome (log_text_line line rest none) ∙ begun_text (log_text rest) (read_text line) version header;
}

pub refused_first : (line : List ℕ) → has_line_feed line ≡ false → dest_header (read_text line) ≡ None → IsRefusedAt (([] ++ line) ++ line_feed ∷ []) 1 Header
refused_first line none header = record {
  refused = λ rest. ap log_answer (with_rest [] line rest) ∙ ap log_outcome (log_text_line line rest none) ∙ headless_text (log_text rest) (read_text line) header;
}

-- a text with no line feed

no_line_cut : (line : List ℕ) (version : LogVersion) → dest_header (read_text line) ≡ Some version → no_line (last_part line) ≡ Err (1, Cut)
no_line_cut [] version header = cc
no_line_cut (byte ∷ line) version header = rw header refl

no_line_headless : (line : List ℕ) → dest_header (read_text line) ≡ None → no_line (last_part line) ≡ Err (1, Header)
no_line_headless [] header = refl
no_line_headless (byte ∷ line) header = rw header refl

pub cut_first : (line : List ℕ) (version : LogVersion) → has_line_feed line ≡ false → dest_header (read_text line) ≡ Some version → log_answer ([] ++ line) ≡ Err (1, Cut)
cut_first line version none header = ap log_outcome (log_text_last line none) ∙ no_line_cut line version header

pub headless_first : (line : List ℕ) → has_line_feed line ≡ false → dest_header (read_text line) ≡ None → log_answer ([] ++ line) ≡ Err (1, Header)
headless_first line none header = ap log_outcome (log_text_last line none) ∙ no_line_headless line header

-- the state behind the header
pub begun : {E : Type 0} (result : Result LogState E) (input : Option (List ℕ)) (unread : Unread) (left : Option (List ℕ)) (line : List ℕ) (version : LogVersion) →
    IfOk result (λ log. log ≡ first_state version)
    → IsUnread input (([] ++ line) ++ line_feed ∷ []) unread left → has_line_feed line ≡ false → dest_header (read_text line) ≡ Some version → IfOk result (λ log. IsUnderway input unread left 2 log)
begun (Ok log) input unread left line version first behind none header = record {
  handed = ([] ++ line) ++ line_feed ∷ [];
  behind = behind;
  leads = subst (LeadsTo (([] ++ line) ++ line_feed ∷ []) 2) (sym first) (leads_first line version none header);
}
begun (Err fault) input unread left line version first behind none header = tt

-- the fault of a refused call
pub fault_is : {A E : Type 0} (fault other : E) → IsErrOf {T = A} {E = E} (Err fault) other → fault ≡ other
fault_is fault other same = cc

-- what `?` returns on an error
pub passed_on : {T E : Type 0} → (result : Result T E) (fault : E) → IsErrAnd result (λ other. other ≡ fault) → result ≡ Err fault
passed_on (Ok made) fault is = absurd is
passed_on (Err other) fault is = ap (λ e. Err e) is

-- what is told of the source and of the input, by a call that passes a fault on

pub failure_passed : {A B : Type 0} → (result : Result B Fault) (fault : Fault) (has_failed : Bool) → IsErrAnd result (λ other. other ≡ fault)
    → TellsFailure {T = A} (Err fault) has_failed → TellsFailure result has_failed
failure_passed (Ok made) fault has_failed is failure = absurd is
failure_passed (Err other) fault has_failed is failure = record {
  read_fault = λ same. failure.read_fault (ap (λ e. Err e) (sym is ∙ fault_is other ReadFault same));
  told = λ failed. ap (λ e. Err e) (is ∙ fault_is fault ReadFault (failure.told failed));
  unfailed = tt;
}

pub input_passed : {A B : Type 0} → (result : Result B Fault) (fault : Fault) (input left : Option (List ℕ)) → IsErrAnd result (λ other. other ≡ fault)
    → TellsInput {T = A} (Err fault) input left → TellsInput result input left
input_passed (Ok made) fault input left is told = absurd is
input_passed (Err other) fault input left is told = record {
  refused = subst (TellsRefusal input) (sym is) told.refused;
  too_long = λ same. told.too_long (ap (λ e. Err e) (sym is ∙ fault_is other TooLong same));
  memory = λ same. told.memory (ap (λ e. Err e) (sym is ∙ fault_is other Memory same));
}

pub memory_unfailed : {T : Type 0} → (result : Result T Fault) (has_failed : Bool) → IfErr result (λ fault. fault ≡ Memory) → has_failed ≡ false → TellsFailure result has_failed
memory_unfailed (Ok made) has_failed is unfailed = record { read_fault = λ same. absurd (cc); told = λ failed. absurd (cc); unfailed = unfailed }
memory_unfailed (Err fault) has_failed is unfailed = record { read_fault = λ same. absurd (cc); told = λ failed. absurd (cc); unfailed = tt }

-- what is told of the input, fault by fault

pub refusal_told : {T : Type 0} → (input left : Option (List ℕ)) (line : ℕ) (cause : Cause) → IsRefusedLog input line cause → TellsInput {T = T} (Err (LogFault line cause)) input left
refusal_told input left line cause refused = record { refused = refused; too_long = λ same. absurd (cc); memory = λ same. absurd (cc) }

no_line_named : (fault : Fault) (input : Option (List ℕ)) → Contains (ReadFault ∷ TooLong ∷ Memory ∷ []) fault → TellsRefusal input fault
no_line_named fault input is = search rules

pub fault_told : {T : Type 0} → (fault : Fault) (input left : Option (List ℕ)) → TellsRefusal input fault → (fault ≡ TooLong → IfSome input (λ told. TEXT_BYTES_LIMIT < length told))
    → (fault ≡ Memory → StaysWithin input left) → TellsInput {T = T} (Err fault) input left
fault_told fault input left refused too_long memory = record {
  refused = refused;
  too_long = λ same. too_long (fault_is fault TooLong same);
  memory = λ same. memory (fault_is fault Memory same);
}

pub memory_told : {T : Type 0} → (result : Result T Fault) (input left : Option (List ℕ)) → IfErr result (λ fault. fault ≡ Memory) → StaysWithin input left → TellsInput result input left
memory_told (Ok made) input left is within = record { refused = tt; too_long = λ same. absurd (cc); memory = λ same. within }
memory_told (Err fault) input left is within = record { refused = rw is tt; too_long = λ same. absurd (cc); memory = λ same. within }

-- of the next line, whose reading was refused
pub line_told : {A B : Type 0} → (fault : Fault) (input left : Option (List ℕ)) → Contains (ReadFault ∷ TooLong ∷ Memory ∷ []) fault → TellsLength {T = A} (Err fault) input
    → (IsErrOf {T = A} (Err fault) Memory → StaysWithin input left) → TellsInput {T = B} (Err fault) input left
line_told fault input left is too_long memory =
    fault_told fault input left (no_line_named fault input is) (λ same. too_long (ap (λ e. Err e) same)) (λ same. memory (ap (λ e. Err e) same))

-- before anything is read
pub unread_at_first : (input : Option (List ℕ)) (unread : Unread) → unread.pending ≡ [] → unread.given ≡ 0 → IsUnread input [] unread input
unread_at_first input unread none nothing = record {
  told = subst (λ (l : List ℕ). Consumes input input l) (sym none) (Consumes-nil input);
  counted = nothing;
}

-- where memory lacks

unread_within : (input left : Option (List ℕ)) (handed : List ℕ) (unread : Unread) → IsUnread input handed unread left → unread.given + length unread.pending ≤ TEXT_BYTES_LIMIT
    → StaysWithin input left
unread_within input left handed unread behind room = taken_within (record {
  taken = handed ++ unread.pending;
  told = behind.told;
  within_limit = subst (λ n. n ≤ TEXT_BYTES_LIMIT) (sym (length-append handed unread.pending ∙ ap (λ n. n + length unread.pending) (sym behind.counted))) room;
})

-- behind a line
pub line_within : (input left : Option (List ℕ)) (handed line : List ℕ) (unread : Unread) (fed : Bool) → IsLine input handed line unread left fed
    → MatchBool fed (unread.given + length unread.pending ≤ TEXT_BYTES_LIMIT) ⊤ → StaysWithin input left
line_within input left handed line unread true read room = unread_within input left ((handed ++ line) ++ line_feed ∷ []) unread read room
line_within input left handed line unread false read room = read_whole read
