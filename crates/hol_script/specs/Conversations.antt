-- How a conversation ends: a run that answers each command before it reads on. Once all is read, and answered, it ends as a run
-- does; where it stops earlier, what it had answered stays.
use Rattle.std.specs.Prelude.{◌≡◌, ◌⊎◌, ◌≤◌, ◌<◌, ℕ, Bool, true, false, List, [], ◌++◌, length, Option, IfSome, Result, Err}
use Rattle.std.specs.Io.KnownBytes.{Consumes}
use Rattle.hol_model.specs.declared.fault.Fault.{Fault}
use Rattle.hol_model.specs.declared.fault.Fault.TheVariants.{Memory, ReadFault, WriteFault, TooLong}
use Rattle.hol_model.specs.declared.limits.TheConstants.{TEXT_BYTES_LIMIT}
use Rattle.hol_model.specs.Logic.Theory.{Theory}
use Rattle.hol_model.specs.Logs.LogState.{LogClaim}
use Rattle.hol_model_sessions.specs.Script.{Cuts, requested}
use Rattle.hol_model_sessions.specs.ScriptSessions.{start, Tools, Turn, Session, text_of_turns}
use Rattle.hol_model_sessions.specs.Runs.{Counts, SourceUse, Devices, Writes, BreaksOff, EndsInOutput, EndsBeforeLog, EndsInLog, EndsLogged, EndsUnlogged}

-- These are the turns of a session of the commands whose `;;` is among the bytes; what stands behind the last `;;` waits.
pub record IsAnswered (tools : Tools) (read : List ℕ) (turns : List Turn) : Type 0 where
  pub pieces : List (List ℕ)
  pub last : List ℕ
  pub cuts : Cuts read pieces last
  pub session : Session tools start (requested 1 pieces []) turns

-- the bytes are the first of those that the source told, where it tells any
abbrev pub TellsFirst : SourceUse → List ℕ → Type 0
TellsFirst source read = IfSome source.told (λ told. (rest : List ℕ) × (told ≡ read ++ rest))

-- Why no more is read behind these bytes. A source that fails has given these and no others.
abbrev pub StopsBehind : SourceUse → Option (List ℕ) → List ℕ → Fault → Type 0
StopsBehind source left read fault =
    ((fault ≡ ReadFault) × (source.has_failed ≡ true) × Consumes source.told left read)
    ⊎ ((fault ≡ TooLong) × IfSome source.told (λ told. TEXT_BYTES_LIMIT < length told))
    ⊎ (fault ≡ Memory)

-- Of the commands among the first bytes of the source these are the turns.
pub record AnswersRead (tools : Tools) (source : SourceUse) (read : List ℕ) (turns : List Turn) : Type 0 where
  pub came : TellsFirst source read
  pub within_limit : length read ≤ TEXT_BYTES_LIMIT
  pub is_answered : IsAnswered tools read turns

-- The input breaks off: each command whose `;;` was read is answered, and nothing else is. `left` is what the source has then.
pub record EndsInInput (tools : Tools) (devices : Devices) (left : Option (List ℕ)) (answer : Result Counts Fault) : Type 0 where
  pub read : List ℕ
  pub turns : List Turn
  pub fault : Fault
  pub answers : answer ≡ Err fault
  pub answers_read : AnswersRead tools devices.script read turns
  pub stops : StopsBehind devices.script left read fault
  pub wrote : Writes devices.out (text_of_turns turns)
  pub log : devices.log.IsUntouched

-- The output breaks off within the answers to the commands whose `;;` was read.
pub record EndsInAnswer (tools : Tools) (devices : Devices) (answer : Result Counts Fault) : Type 0 where
  pub read : List ℕ
  pub turns : List Turn
  pub answers : answer ≡ Err WriteFault
  pub answers_read : AnswersRead tools devices.script read turns
  pub breaks_off : BreaksOff devices.out (text_of_turns turns)
  pub log : devices.log.IsUntouched

-- How a run ends whose output is whole, and what it answers then: by whether a log is wanted.
pub data EndsWhole (tools : Tools) (IsLog : Theory → List LogClaim → List ℕ → Type 0) (devices : Devices) (answer : Result Counts Fault) : Bool → Type 0 where
  without_log : EndsBeforeLog tools IsLog devices answer → EndsWhole tools IsLog devices answer true
  in_written_log : EndsInLog tools IsLog devices answer → EndsWhole tools IsLog devices answer true
  with_log : EndsLogged tools IsLog devices answer → EndsWhole tools IsLog devices answer true
  unasked : EndsUnlogged tools devices answer → EndsWhole tools IsLog devices answer false

-- How a conversation may end, and what it answers then: by whether a log is wanted. Once all is read it ends as a run does.
pub data Closes (tools : Tools) (IsLog : Theory → List LogClaim → List ℕ → Type 0) (devices : Devices) (left : Option (List ℕ)) (answer : Result Counts Fault) (wants_log : Bool) : Type 0 where
  in_input : EndsInInput tools devices left answer → Closes tools IsLog devices left answer wants_log
  in_answer : EndsInAnswer tools devices answer → Closes tools IsLog devices left answer wants_log
  in_last_answer : EndsInOutput tools devices answer → Closes tools IsLog devices left answer wants_log
  at_end : EndsWhole tools IsLog devices answer wants_log → Closes tools IsLog devices left answer wants_log
