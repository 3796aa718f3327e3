-- How far a run is while its script is still read.
use Rattle.std.specs.Prelude.{◌≡◌, ℕ, ◌+◌, ◌≤◌, List, [], ◌++◌, length, drop, Bool, true, Option}
use Rattle.std.specs.Io.KnownBytes.{Appends}
use Rattle.hol_model.specs.declared.fault.Fault.{Fault}
use Rattle.hol_model.specs.declared.fault.Fault.TheVariants.{ReadFault, WriteFault}
use Rattle.hol_model.specs.declared.limits.TheConstants.{TEXT_BYTES_LIMIT}
use Rattle.hol_model.specs.Texts.KnownText.{Tells}
use Rattle.hol_model_sessions.specs.Script.{Cuts, requested}
use Rattle.hol_model_sessions.specs.ScriptSessions.{State, start, Tools, Turn, Session, text_of_turns}
use Rattle.hol_model_sessions.specs.Runs.{Counts, no_counts, counts_after, SourceUse}
use Rattle.hol_model_sessions.specs.Running.{SoFar}
use Rattle.hol_device_io.specs.Bytes.{AppendsFront}
use Rattle.hol_script_manager.specs.Managers.{state_of, IsManager}
use Rattle.hol_script.specs.declared.course.Course.{Course}
use Rattle.hol_script.specs.declared.progress.Progress.{Progress}
use Rattle.hol_script.specs.Runs.{counts_of, names_of, printed_names, Finishes, Breaks}
use Rattle.hol_script.specs.Conversations.{IsAnswered, AnswersRead, StopsBehind}

-- nothing was answered yet
pub record IsBegun (course : Course) : Type 0 where
  pub state : state_of course.progress.manager ≡ start
  pub manager : IsManager course.progress.manager
  pub names : names_of course.progress ≡ []
  pub summary : course.progress.summary ≡ record { accepted = 0; refused = 0; printed = 0 }
  pub at : course.at ≡ 0
  pub line : course.line ≡ 1

-- no more bytes were read than a text may have, the place is one of them, and no number is past it
pub record IsWithin (read : List ℕ) (course : Course) : Type 0 where
  pub within_limit : length read ≤ TEXT_BYTES_LIMIT
  pub manager : IsManager course.progress.manager
  pub place : course.at ≤ length read
  pub lines : course.line ≤ course.at + 1
  pub accepted : course.progress.summary.accepted ≤ course.at
  pub refused : course.progress.summary.refused ≤ course.at
  pub printed : course.progress.summary.printed ≤ course.at

-- After these turns the commands that are left decide what was answered of these bytes: whatever the turns of their session are,
-- all are those of the commands up to the last `;;`.
pub record AnswersSoFar (tools : Tools) (read : List ℕ) (state : State) (line : ℕ) (left : List ℕ) (turns : List Turn) : Type 0 where
  pub decides : (pieces : List (List ℕ)) (last : List ℕ) → Cuts left pieces last → (more : List Turn) → Session tools state (requested line pieces []) more → IsAnswered tools read (turns ++ more)

-- These are the turns so far, whatever bytes follow those that were read.
pub record IsAhead (tools : Tools) (read : List ℕ) (state : State) (line : ℕ) (left : List ℕ) (turns : List Turn) : Type 0 where
  pub run : (more : List ℕ) → SoFar tools (read ++ more) state line (left ++ more) turns
  pub answered : (more : List ℕ) → AnswersSoFar tools (read ++ more) state line (left ++ more) turns

-- What was written, counted and printed is of the turns so far, which left this state, and these bytes from this line on.
pub record IsUnderwayAt (tools : Tools) (read : List ℕ) (written now : Option (List ℕ)) (state : State) (line : ℕ) (left : List ℕ) (counts : Counts) (names : List (List ℕ)) : Type 0 where
  pub turns : List Turn
  pub ahead : IsAhead tools read state line left turns
  pub wrote : Appends written now (text_of_turns turns)
  pub counted : counts ≡ counts_after no_counts turns
  pub named : names ≡ printed_names turns

-- up to its place the commands among the bytes that were read are answered
abbrev pub IsUnderway : Tools → List ℕ → Option (List ℕ) → Option (List ℕ) → Course → Type 0
IsUnderway tools read written now course =
    IsUnderwayAt tools read written now (state_of course.progress.manager) course.line (drop course.at read) (counts_of course.progress.summary) (names_of course.progress)

-- The front of the answers to the commands among the bytes that were read was written.
pub record BreaksAnswers (tools : Tools) (read : List ℕ) (written now : Option (List ℕ)) : Type 0 where
  pub turns : List Turn
  pub is_answered : IsAnswered tools read turns
  pub wrote : AppendsFront written now (text_of_turns turns)

-- what is underway stays so
abbrev pub GoesOn : Tools → List ℕ → Option (List ℕ) → Option (List ℕ) → Course → Course → Type 0
GoesOn tools read before now old new = (written : Option (List ℕ)) → IsUnderway tools read written before old → IsUnderway tools read written now new

-- A write failed: what is underway breaks off within the answers to the bytes that were read, and what was written is a front of
-- what a run writes, whatever bytes follow.
pub record BreaksOff (tools : Tools) (read : List ℕ) (before now : Option (List ℕ)) (has_failed : Bool) (course : Course) (fault : Fault) : Type 0 where
  pub kind : fault ≡ WriteFault
  pub failed : has_failed ≡ true
  pub answers : (written : Option (List ℕ)) → IsUnderway tools read written before course → BreaksAnswers tools read written now
  pub front : (written : Option (List ℕ)) (more : List ℕ) → IsUnderway tools read written before course → Breaks tools (read ++ more) written now

-- No more is read: each command whose `;;` was read is answered, and nothing else is.
pub record IsStopped (tools : Tools) (source : SourceUse) (left written now : Option (List ℕ)) (fault : Fault) : Type 0 where
  pub read : List ℕ
  pub turns : List Turn
  pub answers_read : AnswersRead tools source read turns
  pub stops : StopsBehind source left read fault
  pub wrote : Appends written now (text_of_turns turns)

-- The front of the answers to the commands whose `;;` was read was written.
pub record IsAnswerBroken (tools : Tools) (source : SourceUse) (written now : Option (List ℕ)) : Type 0 where
  pub read : List ℕ
  pub turns : List Turn
  pub answers_read : AnswersRead tools source read turns
  pub wrote : AppendsFront written now (text_of_turns turns)

-- The front of what a run of all that the source had writes was written.
pub record BreaksTold (tools : Tools) (told written now : Option (List ℕ)) : Type 0 where
  pub script : List ℕ
  pub read : Tells told script
  pub breaks : Breaks tools script written now

-- All was read, and the front of what a run of it writes was written.
pub record IsRunBroken (tools : Tools) (told written now : Option (List ℕ)) : Type 0 where
  pub script : List ℕ
  pub read : Tells told script
  pub within_limit : length script ≤ TEXT_BYTES_LIMIT
  pub breaks : Breaks tools script written now

-- Why a conversation stops before all that it has to write is written.
pub data StopsEarly (tools : Tools) (source : SourceUse) (left written now : Option (List ℕ)) (has_failed : Bool) (fault : Fault) : Type 0 where
  reads_no_more : IsStopped tools source left written now fault → StopsEarly tools source left written now has_failed fault
  breaks_in_answer : fault ≡ WriteFault → has_failed ≡ true → IsAnswerBroken tools source written now → StopsEarly tools source left written now has_failed fault
  breaks_at_end : fault ≡ WriteFault → has_failed ≡ true → IsRunBroken tools source.told written now → StopsEarly tools source left written now has_failed fault

-- A conversation stops early. What it wrote is a front of what a run of all that the source had writes, and a device that failed is told.
pub record StopsTold (tools : Tools) (source : SourceUse) (left written now : Option (List ℕ)) (has_failed : Bool) (fault : Fault) : Type 0 where
  pub early : StopsEarly tools source left written now has_failed fault
  pub front : BreaksTold tools source.told written now
  pub reader : source.has_failed ≡ true → fault ≡ ReadFault
  pub writer : has_failed ≡ true → fault ≡ WriteFault

-- All was read and answered.
pub record IsReadWhole (tools : Tools) (told written now : Option (List ℕ)) (progress : Progress) : Type 0 where
  pub script : List ℕ
  pub read : Tells told script
  pub within_limit : length script ≤ TEXT_BYTES_LIMIT
  pub finishes : Finishes tools script written now (counts_of progress.summary) (names_of progress) (state_of progress.manager)
