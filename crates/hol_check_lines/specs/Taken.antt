-- What a log has given after a line.
use Rattle.std.specs.Prelude.{◌≡◌, None, Some, Result, Ok, Err}
use Rattle.hol_model.specs.declared.fault.Cause.{Cause}
use Rattle.hol_model.specs.Logs.LogLine.{LogLine}
use Rattle.hol_model.specs.Logs.LogState.{LogState}
use Rattle.hol_model.specs.Logs.LogSequents.{after_line}
use Rattle.hol_model.specs.Logs.LogFaults.{first_cause}

-- the line is accepted, and adds what it adds
pub record IsTakenLine (state : LogState) (line : LogLine) (now : LogState) : Type 0 where
  pub accepted : first_cause state line ≡ None
  pub after : now ≡ after_line state line

-- the line is taken, or refused for its first cause
abbrev pub IsTaken : LogState → LogLine → LogState → Result (Unit {0}) Cause → Type 0
IsTaken state line now (Ok _) = IsTakenLine state line now
IsTaken state line now (Err cause) = first_cause state line ≡ Some cause
