-- What a run has come to.
use Rattle.std.specs.Prelude.{◌≡◌, ◌+◌, ◌++◌, ℕ, List, [], Bool, map, Option, Result, Ok, Err, codes, string_bytes}
use Rattle.std.specs.Io.KnownBytes.{Appends}
use Rattle.hol_model.specs.declared.fault.Fault.{Fault}
use Rattle.hol_model_sessions.specs.ScriptSessions.{State, start, Tools, Turn, last_state, text_of_turns, as_list, theorems_in_turns}
use Rattle.hol_model.specs.Texts.KnownText.{Tells}
use Rattle.hol_model_sessions.specs.Walking.{TellsWalk}
use Rattle.hol_model_sessions.specs.Runs.{Counts, no_counts, counts_after, IsRun, SourceUse, SinkUse, Devices}
use Rattle.hol_device_io.specs.Bytes.{AppendsFront}
use Rattle.hol_script.specs.declared.progress.Summary.{Summary}
use Rattle.hol_script.specs.declared.progress.Progress.{Progress}
use Rattle.hol_script.specs.declared.ended.Ended.{Ended}
use Rattle.hol_script_manager.specs.Session.{Printed}
use Rattle.hol_script_manager.specs.Session.{Nothing, Line, Goals}
use Rattle.hol_script_manager.specs.Session.{Refused}
use Rattle.hol_script_manager.specs.Session.{printed_name}
use Rattle.hol_script_manager.specs.Managers.{state_of}

-- ---- answers

-- the line of a refusal, by its parts
abbrev pub refusal_of_parts : List ℕ → List ℕ → List ℕ → List ℕ → List ℕ
refusal_of_parts line number name row = codes "line " ++ line ++ codes ": E" ++ number ++ codes " " ++ name ++ row ++ codes "\n"

abbrev pub counts_of : Summary → Counts
counts_of summary = record { accepted_commands = summary.accepted; refused_commands = summary.refused; theorem_lines = summary.printed }

-- the counts after one more answer
abbrev pub counting_answer : Counts → Result Printed Refused → Counts
counting_answer counts (Ok Nothing) = record { accepted_commands = counts.accepted_commands + 1; refused_commands = counts.refused_commands; theorem_lines = counts.theorem_lines }
counting_answer counts (Ok (Line line)) = record { accepted_commands = counts.accepted_commands + 1; refused_commands = counts.refused_commands; theorem_lines = counts.theorem_lines + 1 }
counting_answer counts (Ok (Goals text)) = record { accepted_commands = counts.accepted_commands + 1; refused_commands = counts.refused_commands; theorem_lines = counts.theorem_lines }
counting_answer counts (Err refused) = record { accepted_commands = counts.accepted_commands; refused_commands = counts.refused_commands + 1; theorem_lines = counts.theorem_lines }

-- the names that a run keeps
abbrev pub names_of : Progress → List (List ℕ)
names_of progress = map string_bytes progress.names.items

-- the name in the line of a theorem
abbrev pub names_in_answer : Result Printed Refused → List (List ℕ)
names_in_answer (Ok printed) = as_list (printed_name printed)
names_in_answer (Err refused) = []

-- the names in the lines of theorems, in order
abbrev pub printed_names : List Turn → List (List ℕ)
printed_names turns = map (λ shown. shown.name) (theorems_in_turns turns)

-- ---- runs

-- What was written is the front of the lines with which the pieces of a script are answered.
abbrev pub TellsFront : Option (List ℕ) → Option (List ℕ) → Option (List ℕ) → Type 0
TellsFront input before after = (unwritten : List ℕ) × TellsWalk input before after unwritten

-- What a run of the script writes was written; it printed theorems under these names and ended in this state.
pub record Finishes (tools : Tools) (script : List ℕ) (written new_written : Option (List ℕ)) (counts : Counts) (names : List (List ℕ)) (state : State) : Type 0 where
  pub turns : List Turn
  pub is_run : IsRun tools script turns
  pub wrote : Appends written new_written (text_of_turns turns)
  pub counted : counts ≡ counts_after no_counts turns
  pub named : names ≡ printed_names turns
  pub ends : last_state start turns ≡ state

-- A run of the script that was read left this: what it wrote, what it counted, and its session.
pub record Leaves (tools : Tools) (told written new_written : Option (List ℕ)) (progress : Progress) : Type 0 where
  pub script : List ℕ
  pub read : Tells told script
  pub finishes : Finishes tools script written new_written (counts_of progress.summary) (names_of progress) (state_of progress.manager)

-- The front of what a run of the script writes was written.
pub record Breaks (tools : Tools) (script : List ℕ) (written new_written : Option (List ℕ)) : Type 0 where
  pub turns : List Turn
  pub is_run : IsRun tools script turns
  pub wrote : AppendsFront written new_written (text_of_turns turns)

-- ---- what a run answers, and its devices

-- the answer, where the log was written, if one was asked for
abbrev pub if_logged : {A : Type 0} → Result Unit Fault → A → Result A Fault
if_logged (Ok done) answer = Ok answer
if_logged (Err fault) answer = Err fault

abbrev pub answer_of : Result Ended Fault → Result Counts Fault
answer_of (Ok ended) = if_logged ended.logged (counts_of ended.progress.summary)
answer_of (Err fault) = Err fault

abbrev pub source_use : Option (List ℕ) → Bool → SourceUse
source_use told has_failed = record { told = told; has_failed = has_failed }

abbrev pub sink_use : Option (List ℕ) → Option (List ℕ) → Bool → Type 0 → SinkUse
sink_use before after has_failed IsUntouched = record { before = before; after = after; has_failed = has_failed; IsUntouched = IsUntouched }

abbrev pub devices_used : SourceUse → SinkUse → SinkUse → Devices
devices_used script out log = record { script = script; out = out; log = log }
