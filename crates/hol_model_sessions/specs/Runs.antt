-- What a run of a script reads and writes, and how it ends.
use Rattle.std.specs.Prelude.{◌≡◌, ◌⊎◌, ◌≤◌, ◌<◌, ℕ, ◌+◌, Bool, true, false, List, [], ◌∷◌, ◌++◌, map, length, Option, None, Some, IfSome, Result, Ok, Err}
use Rattle.std.specs.Io.KnownBytes.{Appends}
use Rattle.hol_model.specs.declared.fault.Fault.{Fault}
use Rattle.hol_model.specs.declared.fault.Fault.TheVariants.{Memory, ReadFault, WriteFault, TooLong}
use Rattle.hol_model.specs.declared.limits.TheConstants.{TEXT_BYTES_LIMIT}
use Rattle.hol_model.specs.Logic.Theory.{Theory}
use Rattle.hol_model_sessions.specs.Script.{Cuts, requested}
use Rattle.hol_model.specs.Logs.LogState.{LogClaim}
use Rattle.hol_model_sessions.specs.Replies.{Reply, NamedTheorem, theorem_in}
use Rattle.hol_model_sessions.specs.ScriptSessions.{start, Tools, Turn, Session, last_state, text_of_turns, theorems_in_turns}
use Rattle.hol_model.specs.Goals.Replays.{sequent_of_theorem}

-- ---- what is seen of the turns of a run

-- how many commands were accepted and refused, and how many theorems were printed
pub record Counts : Type 0 where
  pub accepted_commands : ℕ
  pub refused_commands : ℕ
  pub theorem_lines : ℕ

abbrev pub no_counts : Counts
no_counts = record { accepted_commands = 0; refused_commands = 0; theorem_lines = 0 }

abbrev pub one_of : {A : Type 0} → Option A → ℕ
one_of None = 0
one_of (Some x) = 1

-- the counts after one more reply
abbrev pub counting : Counts → Reply → Counts
counting counts (Ok message) = record {
  accepted_commands = counts.accepted_commands + 1;
  refused_commands = counts.refused_commands;
  theorem_lines = counts.theorem_lines + one_of (theorem_in (Ok message));
}
counting counts (Err refusal) = record { accepted_commands = counts.accepted_commands; refused_commands = counts.refused_commands + 1; theorem_lines = counts.theorem_lines }

abbrev pub counts_after : Counts → List Turn → Counts
counts_after counts [] = counts
counts_after counts (turn ∷ turns) = counts_after (counting counts turn.reply) turns

-- the claim of a theorem that is printed: the name in its line, and the images of its terms
abbrev pub claim_of : NamedTheorem → LogClaim
claim_of shown = record { name = shown.name; sequent = sequent_of_theorem shown.theorem }

-- a claim for each line of a theorem, in order
abbrev pub claims_of_turns : List Turn → List LogClaim
claims_of_turns turns = map claim_of (theorems_in_turns turns)

-- ---- runs

-- The script is cut into requests, and these are the turns of a session of them.
pub record IsRun (tools : Tools) (script : List ℕ) (turns : List Turn) : Type 0 where
  pub pieces : List (List ℕ)
  pub last : List ℕ
  pub cuts : Cuts script pieces last
  pub session : Session tools start (requested 1 pieces last) turns

-- ---- devices

-- what a source told that it had, and whether it has failed
pub record SourceUse : Type 0 where
  pub told : Option (List ℕ)
  pub has_failed : Bool

-- what a sink told before and afterwards, whether it has failed, and that it is as it was
pub record SinkUse : Type 1 where
  pub before : Option (List ℕ)
  pub after : Option (List ℕ)
  pub has_failed : Bool
  pub IsUntouched : Type 0

-- the devices of a run
pub record Devices : Type 1 where
  pub script : SourceUse
  pub out : SinkUse
  pub log : SinkUse

-- the bytes are those that the source tells, where it tells any
abbrev pub Tells : SourceUse → List ℕ → Type 0
Tells source bytes = IfSome source.told (λ told. told ≡ bytes)

-- all of the text was written
abbrev pub Writes : SinkUse → List ℕ → Type 0
Writes sink text = Appends sink.before sink.after text

-- the sink failed, and a front of the text was written
pub record BreaksOff (sink : SinkUse) (text : List ℕ) : Type 0 where
  pub front : List ℕ
  pub rest : List ℕ
  pub whole : text ≡ front ++ rest
  pub wrote : Appends sink.before sink.after front
  pub failed : sink.has_failed ≡ true

-- ---- how a run ends

-- The log of a run's theorems, over the theory in which the run ended, is this text.
abbrev pub IsLogOf : (Theory → List LogClaim → List ℕ → Type 0) → List Turn → List ℕ → Type 0
IsLogOf IsLog turns text = IsLog (last_state start turns).library.theory (claims_of_turns turns) text

-- the source failed or is past the limit, or there is no memory to begin
abbrev pub CannotBegin : SourceUse → Fault → Type 0
CannotBegin source fault =
    ((fault ≡ ReadFault) × (source.has_failed ≡ true))
    ⊎ ((fault ≡ TooLong) × IfSome source.told (λ told. TEXT_BYTES_LIMIT < length told))
    ⊎ (fault ≡ Memory)

-- there is no memory for the log, or its text is past the limit
abbrev pub HasNoLog : (Theory → List LogClaim → List ℕ → Type 0) → List Turn → Fault → Type 0
HasNoLog IsLog turns fault =
    ((fault ≡ TooLong) × ((text : List ℕ) × IsLogOf IsLog turns text × (TEXT_BYTES_LIMIT < length text))) ⊎ (fault ≡ Memory)

-- a log that is written is within the limit
pub record IsShortLog (IsLog : Theory → List LogClaim → List ℕ → Type 0) (turns : List Turn) (text : List ℕ) : Type 0 where
  pub is_log : IsLogOf IsLog turns text
  pub within_limit : length text ≤ TEXT_BYTES_LIMIT

-- the whole output of a run of what was read was written
pub record IsWhole (tools : Tools) (devices : Devices) (turns : List Turn) : Type 0 where
  pub script : List ℕ
  pub read : Tells devices.script script
  pub within_limit : length script ≤ TEXT_BYTES_LIMIT
  pub is_run : IsRun tools script turns
  pub wrote : Writes devices.out (text_of_turns turns)

-- the output broke off within what a run of what was read writes
pub record IsBroken (tools : Tools) (devices : Devices) (turns : List Turn) : Type 0 where
  pub script : List ℕ
  pub read : Tells devices.script script
  pub within_limit : length script ≤ TEXT_BYTES_LIMIT
  pub is_run : IsRun tools script turns
  pub breaks_off : BreaksOff devices.out (text_of_turns turns)

-- Nothing is run: nothing is written.
pub record EndsUnread (devices : Devices) (answer : Result Counts Fault) : Type 0 where
  pub fault : Fault
  pub answers : answer ≡ Err fault
  pub cannot_begin : CannotBegin devices.script fault
  pub out : devices.out.IsUntouched
  pub log : devices.log.IsUntouched

-- The output breaks off: none of the log is written.
pub record EndsInOutput (tools : Tools) (devices : Devices) (answer : Result Counts Fault) : Type 0 where
  pub turns : List Turn
  pub answers : answer ≡ Err WriteFault
  pub broken : IsBroken tools devices turns
  pub log : devices.log.IsUntouched

-- The output is whole, and there is no log to be written.
pub record EndsBeforeLog (tools : Tools) (IsLog : Theory → List LogClaim → List ℕ → Type 0) (devices : Devices) (answer : Result Counts Fault) : Type 0 where
  pub turns : List Turn
  pub fault : Fault
  pub answers : answer ≡ Err fault
  pub whole : IsWhole tools devices turns
  pub has_none : HasNoLog IsLog turns fault
  pub log : devices.log.IsUntouched

-- The output is whole, and the log breaks off.
pub record EndsInLog (tools : Tools) (IsLog : Theory → List LogClaim → List ℕ → Type 0) (devices : Devices) (answer : Result Counts Fault) : Type 0 where
  pub turns : List Turn
  pub text : List ℕ
  pub answers : answer ≡ Err WriteFault
  pub whole : IsWhole tools devices turns
  pub is_log : IsShortLog IsLog turns text
  pub breaks_off : BreaksOff devices.log text

-- The output and the log are whole.
pub record EndsLogged (tools : Tools) (IsLog : Theory → List LogClaim → List ℕ → Type 0) (devices : Devices) (answer : Result Counts Fault) : Type 0 where
  pub turns : List Turn
  pub text : List ℕ
  pub answers : answer ≡ Ok (counts_after no_counts turns)
  pub whole : IsWhole tools devices turns
  pub is_log : IsShortLog IsLog turns text
  pub wrote : Writes devices.log text

-- The output is whole, and no log was asked for.
pub record EndsUnlogged (tools : Tools) (devices : Devices) (answer : Result Counts Fault) : Type 0 where
  pub turns : List Turn
  pub answers : answer ≡ Ok (counts_after no_counts turns)
  pub whole : IsWhole tools devices turns
  pub log : devices.log.IsUntouched

-- How a run may end, and what it answers then: by whether a log is wanted.
pub data Ends (tools : Tools) (IsLog : Theory → List LogClaim → List ℕ → Type 0) (devices : Devices) (answer : Result Counts Fault) : Bool → Type 0 where
  unread : {wants_log : Bool} → EndsUnread devices answer → Ends tools IsLog devices answer wants_log
  in_output : {wants_log : Bool} → EndsInOutput tools devices answer → Ends tools IsLog devices answer wants_log
  before_log : EndsBeforeLog tools IsLog devices answer → Ends tools IsLog devices answer true
  in_log : EndsInLog tools IsLog devices answer → Ends tools IsLog devices answer true
  logged : EndsLogged tools IsLog devices answer → Ends tools IsLog devices answer true
  unlogged : EndsUnlogged tools devices answer → Ends tools IsLog devices answer false
