-- The statements of the laws on sessions.
use Rattle.std.specs.Prelude.{◌≡◌, ℕ, true, List, [], ◌∷◌, Option, None, Some, Err}
use Rattle.hol_model.specs.declared.fault.Fault.{Fault}
use Rattle.hol_model.specs.declared.fault.Fault.TheVariants.{Memory, Syntax}
use Rattle.hol_model.specs.Terms.Name.{is_identifier}
use Rattle.hol_model.specs.Logic.Theory.{Theory, IsLegal, IsEarlier}
use Rattle.hol_model.specs.Logic.Derivable.{IsMember}
use Rattle.hol_model.specs.Kernel.Theorem.{Theorem, IsTheorem}
use Rattle.hol_model_sessions.specs.Script.{Request}
use Rattle.hol_model.specs.Texts.SequentGrammar.{ReadsSequent}
use Rattle.hol_model.specs.Texts.SequentTexts.{SequentsReadBack}
use Rattle.hol_model.specs.Texts.Texts.{text_of_sequent}
use Rattle.hol_model_sessions.specs.Replies.{Refusal, refusal_of, NamedTheorem, theorem_in, goals_in}
use Rattle.hol_model_sessions.specs.ScriptSessions.{State, start, scope_in, Tools, Turn, Takes, Session, last_state, theorems_in_turns, IsProved, IsFinished}

-- why a text may be refused in any state: for memory, or as it is unfinished
abbrev pub fault_left : Option (List ℕ) → Fault
fault_left None = Syntax
fault_left (Some text) = Memory

-- the turn in which a request finds no memory; a text behind the last `;;` is refused as it is
abbrev pub without_memory : State → Request → Turn
without_memory state request = record { line = request.line; reply = Err (refusal_of (fault_left request.text)); after = state }

abbrev pub all_without_memory : State → List Request → List Turn
all_without_memory state [] = []
all_without_memory state (request ∷ requests) = without_memory state request ∷ all_without_memory state requests

-- in each state each of the commands that are left may find no memory, and then a text behind the last `;;` is refused
abbrev pub MayLackMemory : Tools → Type 0
MayLackMemory tools = (state : State) (requests : List Request) → Session tools state requests (all_without_memory state requests)

-- a refusal leaves the state
abbrev pub RefusalsChangeNothing : Tools → Type 0
RefusalsChangeNothing tools =
    (state : State) (request : Request) (turn : Turn) (refusal : Refusal) → Takes tools state request turn → turn.reply ≡ Err refusal → turn.after ≡ state

-- each turn leads from a legal theory to a legal theory, which has the same entries and perhaps one more
abbrev pub TheoriesStayLegal : Tools → Type 0
TheoriesStayLegal tools =
    (state : State) (requests : List Request) (turns : List Turn) → Session tools state requests turns → IsLegal state.library.theory
    → (turn : Turn) → IsMember turn turns → IsLegal turn.after.library.theory

abbrev pub TheoriesGrow : Tools → Type 0
TheoriesGrow tools =
    (state : State) (requests : List Request) (turns : List Turn) → Session tools state requests turns
    → IsEarlier state.library.theory (last_state state turns).library.theory

-- each theorem that is printed is proved, and its text is read as its sequent
pub record IsTold (state : State) (theorem : Theorem) : Type 0 where
  pub proved : IsProved state theorem
  pub reads : ReadsSequent (scope_in state) (text_of_sequent (scope_in state) theorem.hypotheses theorem.conclusion) (theorem.hypotheses, theorem.conclusion)

abbrev pub PrintedTheoremsAreProved : Tools → Type 0
PrintedTheoremsAreProved tools =
    SequentsReadBack → (state : State) (requests : List Request) (turns : List Turn) → Session tools state requests turns
    → (turn : Turn) (shown : NamedTheorem) → IsMember turn turns → theorem_in turn.reply ≡ Some shown → IsTold turn.after shown.theorem

-- where no subgoals are told, the goal that was set is proved
abbrev pub NoSubgoalsMeansProved : Tools → Type 0
NoSubgoalsMeansProved tools =
    (state : State) (requests : List Request) (turns : List Turn) → Session tools state requests turns
    → (turn : Turn) → IsMember turn turns → goals_in turn.reply ≡ Some [] → IsFinished turn.after

-- the name of each theorem that a session prints is an identifier, and stands for that theorem at the end
pub record PrintedTheoremsStay (tools : Tools) : Type 0 where
  pub named : (requests : List Request) (turns : List Turn) → Session tools start requests turns
      → (shown : NamedTheorem) → IsMember shown (theorems_in_turns turns) → is_identifier shown.name ≡ true
  pub stays : (requests : List Request) (turns : List Turn) → Session tools start requests turns
      → (shown : NamedTheorem) → IsMember shown (theorems_in_turns turns) → (last_state start turns).library.theorems shown.name ≡ Some shown.theorem

-- a theorem over an earlier state of the theory is one over each later state, so what is stored needs no theory beside its sequent
abbrev pub SequentsSuffice : Type 0
SequentsSuffice = (theorem : Theorem) (theory : Theory) → IsTheorem theorem → IsEarlier theorem.theory theory → IsLegal theory
    → IsTheorem (record { theory = theory; hypotheses = theorem.hypotheses; conclusion = theorem.conclusion })
