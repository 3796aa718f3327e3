-- How a whole log is judged line by line.
use Rattle.std.specs.Prelude.{◌≡◌, ℕ, List, ◌++◌, Option, Some, None, Result, Ok, Err, IfErr, IsErrOf}
use Rattle.hol_model.specs.declared.fault.Fault.{Fault}
use Rattle.hol_model.specs.declared.fault.Fault.TheVariants.{Memory, ReadFault, TooLong, LogFault}
use Rattle.hol_model.specs.declared.fault.Cause.{Cause}
use Rattle.hol_model.specs.declared.fault.Cause.TheVariants.{Shape}
use Rattle.hol_model.specs.Logs.LogState.{LogState}
use Rattle.hol_model.specs.Logs.LogText.{ReadLine, LogOutcome, from_line, at_last, log_outcome}
use Rattle.hol_logtext.specs.LogBytes.{log_text, last_part}
use Rattle.hol_check_lines.specs.Taken.{IsTaken}
use Rattle.hol_check.specs.Reading.{Unread, IsUnread, IsRead, StaysWithin, TellsLength}

-- the answer of the bytes of a whole log
abbrev pub log_answer : List ℕ → LogOutcome
log_answer bytes = log_outcome (log_text bytes)

-- that of the bytes from the line of a number on, after the lines before it
abbrev pub answer_from : ℕ → LogState → List ℕ → LogOutcome
answer_from number state bytes = let text = log_text bytes in from_line text.rest text.lines number state

-- the answer for the text of a line, which may have no form
abbrev pub IsTakenText : LogState → ReadLine → Result (Unit {0}) Cause → LogState → Type 0
IsTakenText state (Some line) answer now = IsTaken state line now answer
IsTakenText state None (Ok done) now = ⊥
IsTakenText state None (Err cause) now = cause ≡ Shape

-- whatever follows these bytes, the whole is answered as what follows is from this line on
pub record LeadsTo (handed : List ℕ) (number : ℕ) (state : LogState) : Type 0 where
  pub goes_on : (rest : List ℕ) → log_answer (handed ++ rest) ≡ answer_from number state rest

-- whatever follows these bytes, the log is refused
pub record IsRefusedAt (handed : List ℕ) (line : ℕ) (cause : Cause) : Type 0 where
  pub refused : (rest : List ℕ) → log_answer (handed ++ rest) ≡ Err (line, cause)

-- the bytes handed out lead to this line
pub record IsUnderway (input : Option (List ℕ)) (unread : Unread) (left : Option (List ℕ)) (number : ℕ) (state : LogState) : Type 0 where
  pub handed : List ℕ
  pub behind : IsUnread input handed unread left
  pub leads : LeadsTo handed number state

-- the answer where the text ends behind the bytes of a last line without a line feed
abbrev pub IsEnded : ℕ → LogState → List ℕ → Result (Unit {0}) Cause → Type 0
IsEnded number state line (Ok done) = at_last number state (last_part line) ≡ Ok state
IsEnded number state line (Err cause) = at_last number state (last_part line) ≡ Err (number, cause)

-- the input is the text of a log that is accepted in this state
pub record IsAcceptedLog (input : Option (List ℕ)) (state : LogState) : Type 0 where
  pub text : List ℕ
  pub read : IsRead input text
  pub accepted : log_answer text ≡ Ok state

-- the input is the text of a log that is refused
pub record IsRefusedLog (input : Option (List ℕ)) (line : ℕ) (cause : Cause) : Type 0 where
  pub text : List ℕ
  pub read : IsRead input text
  pub refused : log_answer text ≡ Err (line, cause)

-- where a fault names a line and a cause, the input is refused there for that
abbrev pub TellsRefusal : Option (List ℕ) → Fault → Type 0
TellsRefusal input (LogFault line cause) = IsRefusedLog input line cause
TellsRefusal input _ = Unit {0}

-- What a refusal tells of the input: LogFault the line and the cause, TooLong that it is longer than the limit on texts, and Memory that no
-- more bytes than a text may have were taken of it.
pub record TellsInput {T : Type 0} (result : Result T Fault) (input left : Option (List ℕ)) : Type 0 where
  pub refused : IfErr result (TellsRefusal input)
  pub too_long : TellsLength result input
  pub memory : IsErrOf result Memory → StaysWithin input left

-- the refusals of a log that is read
abbrev pub IsRefusal : Fault → Type 0
IsRefusal Memory = Unit {0}
IsRefusal ReadFault = Unit {0}
IsRefusal TooLong = Unit {0}
IsRefusal (LogFault line cause) = Unit {0}
IsRefusal _ = ⊥
