-- What a manager stands for, what holds of it, and what its private calls leave.
use Rattle.std.specs.Prelude.{◌≡◌, ℕ, List, take, Some, None}
use Rattle.hol_journal.specs.Journal.{Journal}
use Rattle.hol_journal_log.specs.LogWriting.{Claimed}
use Rattle.hol_script_inference.specs.Sessions.{stored_claims, printed_text, printed_name, Printed, IsSession}
use Rattle.hol_model.specs.Goals.GoalStates.{Proof, open_goals, goals_of_proof, reverted}
use Rattle.hol_model_sessions.specs.Replies.{text_of_goals}
use Rattle.hol_model_sessions.specs.ScriptSessions.{State, scope_in, AreShown}
use Rattle.hol_theorem_store.specs.Store.{stored_of}
use Rattle.hol_theorem_store.specs.Stored.{IsStoreOf, KeepsTheorems}
use Rattle.hol_model.specs.Goals.GoalLaws.{IsValidStack}
use Rattle.hol_theorem_library.specs.Library.{store_in}
use Rattle.hol_goals.specs.Stages.{stack_of}
use Rattle.hol_goals.specs.Made.{KeepsMade}
use Rattle.hol_script_inference.specs.Sessions as sessions
use Rattle.hol_laws_sessions.specs.ValidSessions.{IsTold}
use Rattle.hol_script_manager.specs.declared.manager.Manager.{Manager}

-- the state of a session that a manager keeps
abbrev pub state_of : Manager → State
state_of manager = record {
  library = sessions.state_of manager.prover.session;
  lemmas = (store_in manager.prover.session.library).lemmas;
  proof = (stack_of manager.stack).proof;
}

-- what its recorder made
abbrev pub journal_of : Manager → Journal
journal_of manager = manager.prover.session.library.recorder

-- the claims of the theorems that are stored under these names
abbrev pub claims_of : Manager → List (List ℕ) → List Claimed
claims_of manager names = stored_claims (stored_of manager.prover.session.library.store).theorems names

-- the session is one, the proof under way is sound over it, and its recorder made the theorem of a goal that is proved
pub record IsManager (manager : Manager) : Type 0 where
  pub session : IsSession manager.prover.session
  pub stack : IsValidStack manager.prover.session.library.recorder.theory (store_in manager.prover.session.library) (stack_of manager.stack)
  pub made : KeepsMade manager.prover.session.library.recorder manager.stack
  pub told : IsTold (sessions.state_of manager.prover.session)

-- the text of the open goals, which are shown as they may be
pub record ShowsGoals (state : State) (printed : Printed) : Type 0 where
  pub spelled : printed_text printed ≡ text_of_goals (scope_in state) (goals_of_proof state.proof)
  pub unnamed : printed_name printed ≡ None
  pub shown : (proof : Proof) → state.proof ≡ Some proof → AreShown state (open_goals proof.stage)

-- the last change of the proof is undone, and all else is as before
pub record IsUndone (old new : Manager) : Type 0 where
  pub prover : new.prover ≡ old.prover
  pub stack : stack_of new.stack ≡ reverted (stack_of old.stack)
  pub made : (journal : Journal) → KeepsMade journal old.stack → KeepsMade journal new.stack

-- the first lemmas are left, so many, and all else is as before
pub record Forgets (old new : Manager) (count : ℕ) : Type 0 where
  pub stack : new.stack ≡ old.stack
  pub scope : new.prover.session.scope ≡ old.prover.session.scope
  pub recorder : new.prover.session.library.recorder ≡ old.prover.session.library.recorder
  pub logic : new.prover.session.library.logic ≡ old.prover.session.library.logic
  pub laws : new.prover.session.library.laws ≡ old.prover.session.library.laws
  pub theorems : KeepsTheorems (stored_of old.prover.session.library.store) (stored_of new.prover.session.library.store)
  pub lemmas : (stored_of new.prover.session.library.store).lemmas ≡ take count (stored_of old.prover.session.library.store).lemmas
  pub stored : (journal : Journal) → IsStoreOf journal (stored_of old.prover.session.library.store) → IsStoreOf journal (stored_of new.prover.session.library.store)
