-- What is said of a command, and what is printed of it.
use Rattle.std.specs.Prelude.{ℕ, Bool, true, false, List, [], ◌∷◌, ◌++◌, length, Option, None, Some, Result, Ok, Err, codes, decimal}
use Rattle.hol_model.specs.declared.fault.Fault.{Fault}
use Rattle.hol_model.specs.Kernel.Fault.{number_of, name_of}
use Rattle.hol_model.specs.Terms.NamedTerm.{NamedTerm}
use Rattle.hol_model.specs.Kernel.Theorem.{Theorem}
use Rattle.hol_model.specs.Goals.Goals.{Goal}
use Rattle.hol_model.specs.Texts.Reading.{Scope}
use Rattle.hol_model.specs.Texts.Texts.{text_of_term, text_of_sequent, text_of_goal}

-- what an accepted command prints: nothing, a theorem under a name, or the goals that are open
pub data Message : Type 0 where
  nothing : Message
  theorem_line : List ℕ → Theorem → Message
  goal_lines : List Goal → Message

-- a refusal; of a proposition that is no tautology, the values of its atoms that make it false
pub record Refusal : Type 0 where
  pub fault : Fault
  pub row : List (NamedTerm × Bool)

abbrev pub refusal_of : Fault → Refusal
refusal_of fault = record { fault = fault; row = [] }

-- what is said of a command: a message, or a refusal
abbrev pub Reply : Type 0
Reply = Result Message Refusal

-- ---- what is seen of a reply

pub record NamedTheorem : Type 0 where
  pub name : List ℕ
  pub theorem : Theorem

abbrev pub theorem_in_message : Message → Option NamedTheorem
theorem_in_message nothing = None
theorem_in_message (theorem_line name theorem) = Some (record { name = name; theorem = theorem })
theorem_in_message (goal_lines goals) = None

abbrev pub goals_in_message : Message → Option (List Goal)
goals_in_message nothing = None
goals_in_message (theorem_line name theorem) = None
goals_in_message (goal_lines goals) = Some goals

-- the theorem that is printed
abbrev pub theorem_in : Reply → Option NamedTheorem
theorem_in (Ok message) = theorem_in_message message
theorem_in (Err refusal) = None

-- the goals that are printed
abbrev pub goals_in : Reply → Option (List Goal)
goals_in (Ok message) = goals_in_message message
goals_in (Err refusal) = None

-- the refusal that is printed
abbrev pub refusal_in : Reply → Option Refusal
refusal_in (Ok message) = None
refusal_in (Err refusal) = Some refusal

-- ---- texts

-- the text of what there is, if anything
abbrev pub text_of_some : {A : Type 0} → (A → List ℕ) → Option A → List ℕ
text_of_some text None = []
text_of_some text (Some x) = text x

-- a theorem's line
abbrev pub text_of_theorem : Scope → NamedTheorem → List ℕ
text_of_theorem scope shown =
    shown.name ++ codes ": " ++ text_of_sequent scope shown.theorem.hypotheses shown.theorem.conclusion ++ codes "\n"

-- a line for each goal
abbrev pub goals_text : Scope → List Goal → List ℕ
goals_text scope [] = []
goals_text scope (goal ∷ goals) = text_of_goal scope goal.assumptions goal.target ++ codes "\n" ++ goals_text scope goals

-- how many goals are open
abbrev pub count_text : List Goal → List ℕ
count_text [] = codes "No subgoals\n"
count_text (goal ∷ []) = codes "1 subgoal\n"
count_text (goal ∷ next ∷ goals) = decimal (length (goal ∷ next ∷ goals)) ++ codes " subgoals\n"

abbrev pub text_of_goals : Scope → List Goal → List ℕ
text_of_goals scope goals = count_text goals ++ goals_text scope goals

abbrev pub truth_text : Bool → List ℕ
truth_text true = codes "=T"
truth_text false = codes "=F"

-- an atom and its value
abbrev pub value_text : Scope → NamedTerm × Bool → List ℕ
value_text scope value = text_of_term scope value.0 ++ truth_text value.1

abbrev pub further_values : Scope → List (NamedTerm × Bool) → List ℕ
further_values scope [] = []
further_values scope (value ∷ values) = codes ", " ++ value_text scope value ++ further_values scope values

-- a space and the values with commas between them, if there are any
abbrev pub row_text : Scope → List (NamedTerm × Bool) → List ℕ
row_text scope [] = []
row_text scope (value ∷ values) = codes " " ++ value_text scope value ++ further_values scope values

-- the line for a refusal of the command in this line
abbrev pub text_of_refusal : ℕ → Scope → Refusal → List ℕ
text_of_refusal line scope refusal =
    codes "line " ++ decimal line ++ codes ": E" ++ decimal (number_of refusal.fault) ++ codes " " ++ name_of refusal.fault
    ++ row_text scope refusal.row ++ codes "\n"

-- the text of what an accepted command prints
abbrev pub message_text : Scope → Message → List ℕ
message_text scope message = text_of_some (text_of_theorem scope) (theorem_in_message message) ++ text_of_some (text_of_goals scope) (goals_in_message message)

-- the text of a reply to the command in this line
abbrev pub reply_text : ℕ → Scope → Reply → List ℕ
reply_text line scope (Ok message) = message_text scope message
reply_text line scope (Err refusal) = text_of_refusal line scope refusal
