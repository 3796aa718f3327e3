-- What is answered for a whole proof log.
use Rattle.std.specs.Prelude.{ℕ, ◌+◌, List, [], ◌∷◌, Bool, true, false, Option, Some, None, Result, Ok, Err}
use Rattle.hol_model.specs.declared.fault.Cause.{Cause}
use Rattle.hol_model.specs.declared.fault.Cause.TheVariants.{Header, Cut, Shape, End}
use Rattle.hol_model.specs.Logs.LogLine.{LogVersion, LogLine}
use Rattle.hol_model.specs.Logs.LogLine.LogLine.{header_line}
use Rattle.hol_model.specs.Logs.LogState.{LogState, first_state}
use Rattle.hol_model.specs.Logs.LogSequents.{after_line}
use Rattle.hol_model.specs.Logs.LogFaults.{first_cause}

-- what a line's text says, `None` where it has no form of the format
abbrev pub ReadLine : Type 0
ReadLine = Option LogLine

-- the lines that end in a line feed, and what follows the last line feed, if anything does
pub record LogText : Type 0 where
  pub lines : List ReadLine
  pub rest : Option ReadLine

-- a log is accepted in a last state, or refused at a line for a cause
abbrev pub LogOutcome : Type 0
LogOutcome = Result LogState (ℕ × Cause)

-- after the last line feed
abbrev pub at_end : Bool → ℕ → LogState → LogOutcome
at_end true number state = Ok state
at_end false number state = Err (number, End)

abbrev pub at_last : ℕ → LogState → Option ReadLine → LogOutcome
at_last number state None = at_end state.is_ended number state
at_last number state (Some cut) = Err (number, Cut)

abbrev pub unless_refused : ℕ → Option Cause → LogOutcome → LogOutcome
unless_refused number None later = later
unless_refused number (Some cause) later = Err (number, cause)

-- from the line of this number on, after the lines before it
abbrev pub from_line : Option ReadLine → List ReadLine → ℕ → LogState → LogOutcome
from_line rest [] number state = at_last number state rest
from_line rest (None ∷ more) number state = Err (number, Shape)
from_line rest (Some line ∷ more) number state = unless_refused number (first_cause state line) (from_line rest more (number + 1) (after_line state line))

abbrev pub dest_header : ReadLine → Option LogVersion
dest_header (Some (header_line version)) = Some version
dest_header _ = None

-- what follows a header
abbrev pub after_header : Option LogVersion → (LogVersion → LogOutcome) → LogOutcome
after_header None next = Err (1, Header)
after_header (Some version) next = next version

-- a text with no line feed
abbrev pub no_line : Option ReadLine → LogOutcome
no_line None = Err (1, Header)
no_line (Some cut) = after_header (dest_header cut) (λ version. Err (1, Cut))

abbrev pub log_outcome_of : List ReadLine → Option ReadLine → LogOutcome
log_outcome_of [] rest = no_line rest
log_outcome_of (first ∷ more) rest = after_header (dest_header first) (λ version. from_line rest more 2 (first_state version))

abbrev pub log_outcome : LogText → LogOutcome
log_outcome text = log_outcome_of text.lines text.rest
