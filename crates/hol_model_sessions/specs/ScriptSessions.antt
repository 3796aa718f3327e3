-- Which replies the commands of a script may have, and what a session is.
use Rattle.std.specs.Prelude.{◌≡◌, ℕ, Bool, not, List, [], ◌∷◌, ◌++◌, map, Option, None, Some, IfSome, is_some, Result, Ok, Err}
use Rattle.hol_model.specs.declared.fault.Fault.{Fault}
use Rattle.hol_model.specs.declared.fault.Fault.TheVariants.{Memory, BadName, UnknownName, Syntax, NameTaken, NoGoal, NotTautology}
use Rattle.hol_model.specs.Terms.NamedTerm.{NamedTerm}
use Rattle.hol_model.specs.Terms.Nameless.{image}
use Rattle.hol_model.specs.Logic.Theory.{Theory, IsLegal}
use Rattle.hol_model.specs.Logic.Derivable.{Derivable}
use Rattle.hol_model.specs.Models.Holds.{Holds}
use Rattle.hol_model.specs.Kernel.Outcome.{given}
use Rattle.hol_model.specs.Kernel.Theorem.{Theorem, AreOrdered}
use Rattle.hol_model.specs.Kernel.Rules.{new_type_outcome}
use Rattle.hol_model.specs.Goals.Goals.{Goal, Achieves}
use Rattle.hol_model.specs.Texts.TypeGrammar.{TypeTree}
use Rattle.hol_model.specs.Texts.TermGrammar.{TermTree}
use Rattle.hol_model.specs.Texts.Lexing.{numeral_value}
use Rattle.hol_model.specs.Texts.Reading.{Scope, type_meaning, meaning, ◌>>=◌}
use Rattle.hol_model.specs.Texts.SequentTexts.{IsReadableFormula, AreReadableFormulas}
use Rattle.hol_model_sessions.specs.Script.{Request}
use Rattle.hol_model_sessions.specs.Sessions.{with_theorem, with_variable, over_theory, is_theorem_name, definition_name, def_outcome, with_definition, newconst_outcome, IsRuleAnswer}
use Rattle.hol_model_sessions.specs.Sessions.{State as Library, start as first_library, scope_in as scope_of_library}
use Rattle.hol_model.specs.Goals.Justifications.{Justification}
use Rattle.hol_model_sessions.specs.ConversionGrammar.{ConversionUnit}
use Rattle.hol_model_sessions.specs.TacticGrammar.{Tactic, read_tactic}
use Rattle.hol_model_sessions.specs.CommandGrammar.{TheoremTree, by_rule, by_tautology, by_conversion, CommandTree, var_command, newtype_command, newconst_command, def_command, thm_command}
use Rattle.hol_model_sessions.specs.CommandGrammar.{show_command, goal_command, e_command, b_command, p_command, r_command, save_command, SpellsCommand}
use Rattle.hol_model.specs.Kernel.Answers.{Is, Unless, Then}
use Rattle.hol_model.specs.Goals.Replays.{Store, sequent_of_theorem}
use Rattle.hol_model.specs.Goals.GoalStates.{proved, Proof, open_goals, set_outcome, back_outcome, rotate_outcome, top_outcome, Refinement, Expansion, MayExpand}
use Rattle.hol_model_sessions.specs.Replies.{Message, nothing, theorem_line, goal_lines, Refusal, refusal_of, Reply, NamedTheorem, theorem_in, goals_in, refusal_in, reply_text}

-- ---- states

-- what a session keeps: the entries, the declared variables and the stored theorems; the lemmas that were proved since
-- the last goal was set; and the proof of that goal, if any
pub record State : Type 0 where
  pub library : Library
  pub lemmas : List Theorem
  pub proof : Option Proof

-- what the names of a text stand for in a state
abbrev pub scope_in : State → Scope
scope_in state = scope_of_library state.library

-- the state in which a script begins
abbrev pub start : State
start = record { library = first_library; lemmas = []; proof = None }

abbrev pub with_library : State → Library → State
with_library state library = record { library = library; lemmas = state.lemmas; proof = state.proof }

abbrev pub with_proof : State → Proof → State
with_proof state proof = record { library = state.library; lemmas = state.lemmas; proof = Some proof }

-- the state with a goal just set: there are no lemmas
abbrev pub with_goal : State → Proof → State
with_goal state proof = record { library = state.library; lemmas = []; proof = Some proof }

-- ---- what a session leaves to refiners, conversions and the decision of tautologies

-- the theorems that they may name
abbrev pub store_in : State → Store
store_in state = record { named = state.library.theorems; lemmas = state.lemmas }

-- what each may answer, within the steps that one command may take
pub record Tools : Type 1 where
  pub refines : Theory → Store → Tactic NamedTerm → Goal → Result Refinement Fault → Type 0
  pub converts : Theory → Store → ConversionUnit → NamedTerm → Result Theorem Fault → Type 0
  pub decides : Theory → NamedTerm → Result Theorem Fault → Type 0
  pub atoms : NamedTerm → List NamedTerm
  pub replays : Theory → Store → Justification → Result Theorem Fault → Type 0

-- ---- outcomes

-- what an accepted command says, and the state that it leaves
pub record Accepted : Type 0 where
  pub message : Message
  pub after : State

-- what comes of a command: it is accepted, or refused; a refusal leaves the state as it is
abbrev pub Outcome : Type 0
Outcome = Result Accepted Refusal

abbrev pub reply_of : Outcome → Reply
reply_of (Ok accepted) = Ok accepted.message
reply_of (Err refusal) = Err refusal

abbrev pub state_after : State → Outcome → State
state_after state (Ok accepted) = accepted.after
state_after state (Err refusal) = state

-- an answer without a row of truth values
abbrev pub Plainly : {A : Type 0} → (Result A Fault → Type 0) → Result A Refusal → Type 0
Plainly may (Ok x) = may (Ok x)
Plainly may (Err refusal) = may (Err refusal.fault) × (refusal.row ≡ [])

abbrev pub says_nothing : State → Accepted
says_nothing state = record { message = nothing; after = state }

abbrev pub says_theorem : List ℕ → Theorem → State → Accepted
says_theorem name theorem state = record { message = theorem_line name theorem; after = state }

-- a theorem stored under a new name, and printed
abbrev pub stores : State → List ℕ → Theorem → Accepted
stores state name theorem = says_theorem name theorem (with_library state (with_theorem state.library name theorem))

-- the proof as it is now, and its goals
abbrev pub says_goals : State → Proof → Accepted
says_goals state proof = record { message = goal_lines (open_goals proof.stage); after = with_proof state proof }

-- ---- declarations and theorems

abbrev pub var_outcome : State → List ℕ → TypeTree → Result Accepted Fault
var_outcome state name tree = type_meaning (scope_in state) tree >>= λ ty. Ok (says_nothing (with_library state (with_variable state.library name ty)))

abbrev pub newtype_outcome : State → List ℕ → Result Accepted Fault
newtype_outcome state name = new_type_outcome state.library.theory name >>= λ theory. Ok (says_nothing (with_library state (over_theory state.library theory)))

abbrev pub newconst_accepted : State → List ℕ → TypeTree → Result Accepted Fault
newconst_accepted state name tree = newconst_outcome state.library name tree >>= λ theory. Ok (says_nothing (with_library state (over_theory state.library theory)))

-- a definition's theorem is stored under a name of its own
abbrev pub def_accepted : State → List ℕ → TermTree → Result Accepted Fault
def_accepted state name tree =
    def_outcome state.library name tree >>= λ theorem.
    Ok (says_theorem (definition_name name) theorem (with_library state (with_definition state.library name theorem)))

abbrev pub show_outcome : State → List ℕ → Result Accepted Fault
show_outcome state name = given (state.library.theorems name) UnknownName (λ theorem. Ok (says_theorem name theorem state))

-- the values of the atoms that make a proposition false, where it is refused for them
abbrev pub values_of : List NamedTerm → List Bool → List (NamedTerm × Bool)
values_of [] row = []
values_of (atom ∷ atoms) [] = []
values_of (atom ∷ atoms) (value ∷ row) = (atom, value) ∷ values_of atoms row

abbrev pub row_of_fault : List NamedTerm → Fault → List (NamedTerm × Bool)
row_of_fault atoms (NotTautology count row) = values_of atoms row
row_of_fault atoms fault = []

-- an answer with the row of truth values, where there is one
abbrev pub WithRow : {A : Type 0} → List NamedTerm → (Result A Fault → Type 0) → Result A Refusal → Type 0
WithRow atoms may (Ok x) = may (Ok x)
WithRow atoms may (Err refusal) = may (Err refusal.fault) × (refusal.row ≡ row_of_fault atoms refusal.fault)

-- what `thm` may give: its arguments from left to right, then the call
abbrev pub IsTheoremAnswer : Tools → State → TheoremTree → Result Theorem Refusal → Type 0
IsTheoremAnswer tools state (by_rule rule) = Plainly (IsRuleAnswer state.library rule)
IsTheoremAnswer tools state (by_tautology tree) =
    Then (Plainly (Is (meaning (scope_in state) [] tree))) (λ term. WithRow (tools.atoms term) (tools.decides state.library.theory term))
IsTheoremAnswer tools state (by_conversion conversion tree) =
    Then (Plainly (Is (meaning (scope_in state) [] tree))) (λ term. Plainly (tools.converts state.library.theory (store_in state) conversion term))

-- a new name for a theorem, and what follows: names that end in `_def` belong to definitions
abbrev pub NamesTheorem : State → List ℕ → (Outcome → Type 0) → Outcome → Type 0
NamesTheorem state name next =
    Unless (is_theorem_name name) (refusal_of BadName)
    (Unless (not (is_some (state.library.theorems name))) (refusal_of NameTaken) next)

-- ---- goals

abbrev pub goal_outcome : State → TermTree → Result Accepted Fault
goal_outcome state tree =
    (meaning (scope_in state) [] tree >>= λ term. set_outcome state.library.theory term) >>= λ proof.
    Ok (record { message = goal_lines (open_goals proof.stage); after = with_goal state proof })

abbrev pub b_outcome : State → Result Accepted Fault
b_outcome state = back_outcome state.proof >>= λ proof. Ok (says_goals state proof)

abbrev pub p_outcome : State → Result Accepted Fault
p_outcome state = given state.proof NoGoal (λ proof. Ok (says_goals state proof))

abbrev pub r_outcome : State → List ℕ → Result Accepted Fault
r_outcome state digits = rotate_outcome state.proof (numeral_value digits) >>= λ proof. Ok (says_goals state proof)

abbrev pub save_outcome : State → List ℕ → Result Accepted Fault
save_outcome state name = top_outcome state.proof >>= λ theorem. Ok (stores state name theorem)

-- the state with the lemmas that were proved on the way
abbrev pub with_lemmas : State → List Theorem → State
with_lemmas state lemmas = record { library = state.library; lemmas = lemmas; proof = state.proof }

-- what may come of refining the first goal
abbrev pub IsExpansion : Tools → State → Tactic NamedTerm → Result Expansion Fault → Type 0
IsExpansion tools state tactic =
    MayExpand state.library.theory (tools.refines state.library.theory (store_in state) tactic)
    (λ lemmas. tools.replays state.library.theory (store_in (with_lemmas state lemmas))) state.proof

-- what `e` may give: its quoted terms are read before a goal is looked for
abbrev pub IsRefined : Tools → State → Tactic TermTree → Result Accepted Fault → Type 0
IsRefined tools state tree =
    Then (Is (read_tactic (meaning (scope_in state) []) tree)) (λ tactic.
    Then (IsExpansion tools state tactic) (λ expansion.
    Is (Ok (says_goals (with_lemmas state expansion.lemmas) expansion.proof))))

-- ---- commands

-- what may come of a command in a state
abbrev pub May : Tools → State → CommandTree → Outcome → Type 0
May tools state (var_command name tree) = Plainly (Is (var_outcome state name tree))
May tools state (newtype_command name) = Plainly (Is (newtype_outcome state name))
May tools state (newconst_command name tree) = Plainly (Is (newconst_accepted state name tree))
May tools state (def_command name tree) = Plainly (Is (def_accepted state name tree))
May tools state (thm_command name tree) =
    NamesTheorem state name (Then (IsTheoremAnswer tools state tree) (λ theorem. Is (Ok (stores state name theorem))))
May tools state (show_command name) = Plainly (Is (show_outcome state name))
May tools state (goal_command tree) = Plainly (Is (goal_outcome state tree))
May tools state (e_command tree) = Plainly (IsRefined tools state tree)
May tools state b_command = Plainly (Is (b_outcome state))
May tools state p_command = Plainly (Is (p_outcome state))
May tools state (r_command digits) = Plainly (Is (r_outcome state digits))
May tools state (save_command name) = NamesTheorem state name (Plainly (Is (save_outcome state name)))

-- what may come of a text, or of what stands behind the last `;;`
pub data Allows (tools : Tools) (state : State) : Option (List ℕ) → Outcome → Type 0 where
  finds_no_memory : {text : List ℕ} → Allows tools state (Some text) (Err (refusal_of Memory))
  is_unfinished : Allows tools state None (Err (refusal_of Syntax))
  is_no_command : {text : List ℕ} → ((tree : CommandTree) → ¬ (SpellsCommand text tree)) → Allows tools state (Some text) (Err (refusal_of Syntax))
  is_refused : {text : List ℕ} {refusal : Refusal} (tree : CommandTree) → SpellsCommand text tree → May tools state tree (Err refusal)
      → Allows tools state (Some text) (Err refusal)
  is_done : {text : List ℕ} {accepted : Accepted} (tree : CommandTree) → SpellsCommand text tree → May tools state tree (Ok accepted)
      → Allows tools state (Some text) (Ok accepted)

-- ---- what is printed

-- The theorem follows from the entries of a legal theory and holds in every finite standard model; its hypotheses stand
-- in order, and each of its terms is told by its text.
pub record IsProved (state : State) (theorem : Theorem) : Type 0 where
  pub legal : IsLegal state.library.theory
  pub derivable : Derivable state.library.theory (map image theorem.hypotheses) (image theorem.conclusion)
  pub holds : Holds state.library.theory (map image theorem.hypotheses) (image theorem.conclusion)
  pub ordered : AreOrdered theorem.hypotheses
  pub readable_hypotheses : AreReadableFormulas (scope_in state) theorem.hypotheses
  pub readable_conclusion : IsReadableFormula (scope_in state) theorem.conclusion

-- each of the goal's terms is told by its text
pub record IsReadableGoal (state : State) (goal : Goal) : Type 0 where
  pub readable_assumptions : AreReadableFormulas (scope_in state) goal.assumptions
  pub readable_target : IsReadableFormula (scope_in state) goal.target

abbrev pub AreReadableGoals : State → List Goal → Type 0
AreReadableGoals state [] = Unit {0}
AreReadableGoals state (goal ∷ goals) = IsReadableGoal state goal × AreReadableGoals state goals

-- The goal that was set is proved: a theorem with its own term as conclusion achieves it.
pub record IsFinished (state : State) : Type 0 where
  pub proof : Proof
  pub theorem : Theorem
  pub is_here : state.proof ≡ Some proof
  pub is_closed : proof.stage ≡ proved theorem
  pub is_proved : IsProved state theorem
  pub achieves : Achieves proof.goal (sequent_of_theorem theorem)
  pub own_term : theorem.conclusion ≡ proof.goal.target

-- goals are printed as they are read; that none is left is said of a goal that is proved
abbrev pub AreShown : State → List Goal → Type 0
AreShown state [] = IsFinished state
AreShown state (goal ∷ goals) = AreReadableGoals state (goal ∷ goals)

-- each term of the values is told by its text
abbrev pub IsReadableRow : State → List (NamedTerm × Bool) → Type 0
IsReadableRow state row = AreReadableFormulas (scope_in state) (map (λ value. value.0) row)

-- what is printed is true
pub record IsTrueReply (state : State) (reply : Reply) : Type 0 where
  pub theorem : IfSome (theorem_in reply) (λ shown. IsProved state shown.theorem)
  pub goals : IfSome (goals_in reply) (AreShown state)
  pub row : IfSome (refusal_in reply) (λ refusal. IsReadableRow state refusal.row)

-- ---- sessions

-- a command of a session: its line, what is said of it, and the state that it leaves
pub record Turn : Type 0 where
  pub line : ℕ
  pub reply : Reply
  pub after : State

abbrev pub turn_of : ℕ → State → Outcome → Turn
turn_of line state outcome = record { line = line; reply = reply_of outcome; after = state_after state outcome }

-- In this state a request may lead to this turn.
pub record Takes (tools : Tools) (state : State) (request : Request) (turn : Turn) : Type 0 where
  pub outcome : Outcome
  pub is_turn : turn ≡ turn_of request.line state outcome
  pub allowed : Allows tools state request.text outcome
  pub is_true : IsTrueReply turn.after turn.reply

-- From this state a session of these requests may go by these turns, one for each.
abbrev pub Session : Tools → State → List Request → List Turn → Type 0
Session tools state [] [] = Unit {0}
Session tools state (request ∷ requests) (turn ∷ turns) = Takes tools state request turn × Session tools turn.after requests turns
Session tools state [] (turn ∷ turns) = ⊥
Session tools state (request ∷ requests) [] = ⊥

-- ---- what is seen of a session

-- the state in which it ends
abbrev pub last_state : State → List Turn → State
last_state state [] = state
last_state state (turn ∷ turns) = last_state turn.after turns

abbrev pub text_of_turn : Turn → List ℕ
text_of_turn turn = reply_text turn.line (scope_in turn.after) turn.reply

-- what it writes
abbrev pub text_of_turns : List Turn → List ℕ
text_of_turns [] = []
text_of_turns (turn ∷ turns) = text_of_turn turn ++ text_of_turns turns

abbrev pub as_list : {A : Type 0} → Option A → List A
as_list None = []
as_list (Some x) = x ∷ []

-- the theorems that it prints, in order
abbrev pub theorems_in_turns : List Turn → List NamedTheorem
theorems_in_turns [] = []
theorems_in_turns (turn ∷ turns) = as_list (theorem_in turn.reply) ++ theorems_in_turns turns
