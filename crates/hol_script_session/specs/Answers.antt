-- What a call on a session answers.
use Rattle.std.specs.Prelude.{◌≡◌, ◌⊎◌, ℕ, true, false, is_some, List, [], ◌++◌, Option, Some, None, Result, Ok, Err, string_bytes, codes, decimal}
use Rattle.hol_model.specs.declared.fault.Fault.{Fault}
use Rattle.hol_model.specs.declared.fault.Fault.TheVariants.{BadName, NameTaken}
use Rattle.hol_model.specs.Kernel.Fault.{number_of, name_of}
use Rattle.hol_model.specs.Kernel.Theorem.{Theorem}
use Rattle.hol_model.specs.Goals.GoalStates.{Proof}
use Rattle.hol_model_sessions.specs.CommandGrammar.{CommandTree}
use Rattle.hol_model.specs.Texts.Reading.{Scope}
use Rattle.hol_model_sessions.specs.Sessions.{is_theorem_name}
use Rattle.hol_model_sessions.specs.Sessions.{State as Library}
use Rattle.hol_model_sessions.specs.Replies.{Reply, text_of_some, text_of_theorem}
use Rattle.hol_model_sessions.specs.ScriptSessions.{State, Tools}
use Rattle.hol_model_sessions.specs.SessionCalls.{SaysMessage, SaysRefusal}
use Rattle.hol_script_session.specs.declared.lines.TheoremLine.{TheoremLine}
use Rattle.hol_script_session.specs.declared.reply.Printed.{Printed}
use Rattle.hol_script_session.specs.declared.reply.Printed.TheVariants.{Nothing, Line, Goals}
use Rattle.hol_script_session.specs.declared.reply.Refused.{Refused}
use Rattle.hol_script_session.specs.Performing.{Performs}

-- ---- what a script keeps

-- what a script keeps beside the library of its session: the lemmas, and the proof under way
pub record Beside : Type 0 where
  pub lemmas : List Theorem
  pub proof : Option Proof

abbrev pub with_beside : Beside → Library → State
with_beside beside library = record { library = library; lemmas = beside.lemmas; proof = beside.proof }

-- tools that answer nothing: what a command does with these it does with any
abbrev pub no_tools : Tools
no_tools = record {
  refines = λ theory store tactic goal answer. ⊥;
  converts = λ theory store conversion term answer. ⊥;
  decides = λ theory term answer. ⊥;
  atoms = λ term. [];
  replays = λ theory store justification answer. ⊥;
}

-- ---- what is said

-- the line of the theorem under the name, and the name itself
pub record IsLineOf (line : TheoremLine) (scope : Scope) (name : List ℕ) (theorem : Theorem) : Type 0 where
  pub named : string_bytes line.name ≡ name
  pub spelled : string_bytes line.text ≡ text_of_theorem scope (record { name = name; theorem = theorem })

abbrev pub printed_text : Printed → List ℕ
printed_text Nothing = []
printed_text (Line line) = string_bytes line.text
printed_text (Goals text) = string_bytes text

-- the name of the theorem that is printed
abbrev pub printed_name : Printed → Option (List ℕ)
printed_name Nothing = None
printed_name (Line line) = Some (string_bytes line.name)
printed_name (Goals text) = None

-- the text of a refusal's row, where it has one
abbrev pub row_bytes : Refused → List ℕ
row_bytes refused = text_of_some string_bytes refused.row

-- a message or a refusal, as it is seen of what a call answers
abbrev pub Says : Result Printed Refused → Scope → Reply → Type 0
Says (Ok printed) scope (Ok message) = SaysMessage scope (printed_text printed) (printed_name printed) message
Says (Err refused) scope (Err refusal) = SaysRefusal scope refused.fault (row_bytes refused) refusal
Says _ scope reply = ⊥

-- the text that is written for an answer to the command in this line
abbrev pub answer_text : ℕ → Result Printed Refused → List ℕ
answer_text line (Ok printed) = printed_text printed
answer_text line (Err refused) =
    codes "line " ++ decimal line ++ codes ": E" ++ decimal (number_of refused.fault) ++ codes " " ++ name_of refused.fault ++ row_bytes refused ++ codes "\n"

-- a refusal without a row
abbrev pub plain : Fault → Refused
plain fault = record { fault = fault; row = None }

abbrev pub plainly : Result Printed Fault → Result Printed Refused
plainly (Ok printed) = Ok printed
plainly (Err fault) = Err (plain fault)

-- What the command does with these lemmas, whatever proof stands beside the library, and what the call says of it.
pub record PerformsWith (tools : Tools) (lemmas : List Theorem) (old : Library) (command : CommandTree) (result : Result Printed Refused) (new : Library) : Type 0 where
  pub performs : (beside : Beside) → beside.lemmas ≡ lemmas → Performs tools (with_beside beside old) command (Says result) (with_beside beside new)

-- ---- parts of commands

-- a theorem may have the name, and none has it
pub record IsNewName (library : Library) (name : List ℕ) : Type 0 where
  pub named : is_theorem_name name ≡ true
  pub none : library.theorems name ≡ None

-- whether a theorem may have the name, and none has it
abbrev pub TestsName : {A : Type 0} → Library → List ℕ → Result A Fault → Type 0
TestsName library name (Ok done) = IsNewName library name
TestsName library name (Err fault) =
    ((fault ≡ BadName) × (is_theorem_name name ≡ false))
    ⊎ ((fault ≡ NameTaken) × (is_theorem_name name ≡ true) × (is_some (library.theorems name) ≡ true))
