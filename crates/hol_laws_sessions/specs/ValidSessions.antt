-- That the proof under way stays sound in a session whose refiners answer valid steps.
use Rattle.std.specs.Prelude.{◌≡◌, ◌⊎◌, ℕ, Bool, false, List, [], ◌++◌, Some, Result, Ok, Err}
use Rattle.hol_model.specs.declared.fault.Fault.{Fault}
use Rattle.hol_model.specs.declared.fault.Fault.TheVariants.{Memory, TooLarge}
use Rattle.hol_model.specs.Terms.NamedTerm.{NamedTerm}
use Rattle.hol_model.specs.Logic.Theory.{IsLegal}
use Rattle.hol_model.specs.Logic.Legality.{is_new_name}
use Rattle.hol_model.specs.Kernel.Theorem.{Theorem}
use Rattle.hol_model.specs.Goals.Goals.{Goal}
use Rattle.hol_model.specs.Texts.TermGrammar.{TermTree}
use Rattle.hol_model.specs.Texts.Reading.{meaning}
use Rattle.hol_model_sessions.specs.Script.{Request}
use Rattle.hol_model_sessions.specs.Sessions.{definition_name}
use Rattle.hol_model_sessions.specs.Sessions.{State as Library}
use Rattle.hol_model.specs.Goals.Justifications.{Justification}
use Rattle.hol_model_sessions.specs.TacticGrammar.{Tactic, read_tactic}
use Rattle.hol_model_sessions.specs.CommandGrammar.{e_command}
use Rattle.hol_model.specs.Goals.Replays.{IsKnownGoal}
use Rattle.hol_model.specs.Goals.GoalStates.{Refinement, Focus, focus_outcome}
use Rattle.hol_model.specs.Goals.GoalLaws.{IsValidIfAny, Replays}
use Rattle.hol_model_sessions.specs.Replies.{Refusal}
use Rattle.hol_model_sessions.specs.ScriptSessions.{State, scope_in, store_in, with_lemmas, Tools, May, Turn, Takes}
use Rattle.hol_model.specs.Goals.GoodSteps.{IsGoodStep}

-- only the definition of a constant gives a name its `_def`
pub record IsTold (library : Library) : Type 0 where
  pub told : (name : List ℕ) (theorem : Theorem) → library.theorems (definition_name name) ≡ Some theorem → is_new_name library.theory name ≡ false

-- the list goes on with more
pub record GoesOn (lemmas more : List Theorem) : Type 0 where
  pub added : List Theorem
  pub is_added : more ≡ lemmas ++ added

-- in this state a refiner expression that was read makes a valid step of a known goal, over the lemmas and perhaps more, and a
-- replay answers what the justification says
pub record RefinesValidly (tools : Tools) (state : State) : Type 0 where
  pub room : List Theorem → Justification → Bool
  pub valid : (tree : Tactic TermTree) (tactic : Tactic NamedTerm) (goal : Goal) (refinement : Refinement)
      → read_tactic (meaning (scope_in state) []) tree ≡ Ok tactic → IsKnownGoal state.library.theory goal
      → tools.refines state.library.theory (store_in state) tactic goal (Ok refinement)
      → IsGoodStep state.library.theory (store_in (with_lemmas state refinement.lemmas)) goal refinement.step
  pub lemmas : (tactic : Tactic NamedTerm) (goal : Goal) (refinement : Refinement)
      → tools.refines state.library.theory (store_in state) tactic goal (Ok refinement) → GoesOn state.lemmas refinement.lemmas
  pub replays : (lemmas : List Theorem) (justification : Justification) (answer : Result Theorem Fault)
      → tools.replays state.library.theory (store_in (with_lemmas state lemmas)) justification answer
      → Replays state.library.theory (store_in (with_lemmas state lemmas)) (room lemmas) justification answer

-- the proof under way, if any, is sound
abbrev pub HasValidProof : State → Type 0
HasValidProof state = IsValidIfAny state.library.theory (store_in state) state.proof

-- each turn keeps the proof sound
abbrev pub TurnsKeepValid : Tools → Type 0
TurnsKeepValid tools =
    (state : State) (request : Request) (turn : Turn) → IsLegal state.library.theory → IsTold state.library → RefinesValidly tools state → HasValidProof state
    → Takes tools state request turn → HasValidProof turn.after

-- why `e` is refused: by its terms, for want of a goal, by the refiner, or for memory or size
pub data RefusesExpansion (tools : Tools) (state : State) (tree : Tactic TermTree) (fault : Fault) : Type 0 where
  by_terms : read_tactic (meaning (scope_in state) []) tree ≡ Err fault → RefusesExpansion tools state tree fault
  without_goal : focus_outcome state.proof ≡ Err fault → RefusesExpansion tools state tree fault
  by_refiner : (tactic : Tactic NamedTerm) (focus : Focus) → focus_outcome state.proof ≡ Ok focus
      → tools.refines state.library.theory (store_in state) tactic focus.goal (Err fault) → RefusesExpansion tools state tree fault
  for_size : (fault ≡ Memory) ⊎ (fault ≡ TooLarge) → RefusesExpansion tools state tree fault

-- no closing replay refuses `e` but for memory or size
abbrev pub ExpansionsAreRefused : Tools → Type 0
ExpansionsAreRefused tools =
    (state : State) (tree : Tactic TermTree) (refusal : Refusal) → IsLegal state.library.theory → RefinesValidly tools state → HasValidProof state
    → May tools state (e_command tree) (Err refusal) → RefusesExpansion tools state tree refusal.fault
