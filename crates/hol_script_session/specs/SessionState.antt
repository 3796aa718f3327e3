-- What the fields of a session stand for, and what holds of them.
use Rattle.std.specs.Prelude.{◌≡◌, ℕ, List, Option, Some}
use Rattle.std.specs.Option.{option_map}
use Rattle.hol_model.specs.Logic.Theory.{IsLegal, IsEarlier}
use Rattle.hol_model.specs.Goals.Replays.{IsStoreOver}
use Rattle.hol_model.specs.Kernel.Theorem.{Theorem}
use Rattle.hol_model_sessions.specs.Sessions.{State}
use Rattle.hol_laws_sessions.specs.ReadTerms.{IsScopeOver}
use Rattle.hol_laws_sessions.specs.ValidSessions.{IsTold}
use Rattle.hol_journal.specs.Journal.{Recorded, IsMade}
use Rattle.hol_journal.specs.Growth.{JournalsGrow}
use Rattle.hol_theorem_store.specs.Store.{stored_of}
use Rattle.hol_prelude.specs.HasLogic.{LogicStays}
use Rattle.hol_taut_laws.specs.HasLaws.{LawsStay}
use Rattle.hol_theorem_library.specs.Library.{IsLibrary, store_in}
use Rattle.hol_syntax.specs.Scope.{scope_of}
use Rattle.hol_script_session.specs.declared.session.Session.{Session}

-- the theorem of what was recorded
abbrev pub theorem_of : Option Recorded → Option Theorem
theorem_of found = option_map (λ (stored : Recorded). stored.theorem) found

-- the library that a session of the program keeps
abbrev pub state_of : Session → State
state_of session = record {
  theory = session.library.recorder.theory;
  variables = (scope_of session.scope).variable_type;
  theorems = λ name. theorem_of ((stored_of session.library.store).theorems name);
}

-- the lemmas that a justification may name
abbrev pub lemmas_of : Session → List Theorem
lemmas_of session = (store_in session.library).lemmas

-- the theory is legal, the scope is one over the theory, and the recorder made what the library keeps, which is proved over
-- the theory
pub record IsSession (session : Session) : Type 0 where
  pub legal : IsLegal session.library.recorder.theory
  pub scope : IsScopeOver session.library.recorder.theory (scope_of session.scope)
  pub library : IsLibrary session.library
  pub proved : IsStoreOver session.library.recorder.theory (store_in session.library)

-- the theory of before is an earlier one, and what was stored is stored still, where only definitions have the names of
-- theirs; then it is so afterwards
pub record IsLaterLibrary (old new : State) : Type 0 where
  pub earlier : IsEarlier old.theory new.theory
  pub told : IsTold old → IsTold new
  pub stays : IsTold old → (name : List ℕ) (theorem : Theorem) → old.theorems name ≡ Some theorem → new.theorems name ≡ Some theorem

-- what the recorder made stays its own
abbrev pub StaysMade : Session → Session → Type 0
StaysMade old new = (made : Recorded) → IsMade old.library.recorder made → IsMade new.library.recorder made

-- what a recorder made stays its own while its theory grows
pub record LibrariesGrow : Type 0 where
  pub grow : JournalsGrow
  pub logic : LogicStays
  pub laws : LawsStay
