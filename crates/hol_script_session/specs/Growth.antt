-- What the calls that let a session's theory grow answer.
use Rattle.std.specs.Prelude.{◌≡◌, ◌≢◌, ℕ, List, [], Option, Some, None, Result, Ok, Err}
use Rattle.hol_model.specs.declared.fault.Fault.{Fault}
use Rattle.hol_model.specs.declared.fault.Fault.TheVariants.{Memory}
use Rattle.hol_model.specs.Terms.NamedTerm.{NamedTerm, constant, equation}
use Rattle.hol_model.specs.Logic.Legality.{own_type}
use Rattle.hol_model.specs.Logic.Theory.{Theory}
use Rattle.hol_model.specs.Kernel.Theorem.{Theorem, IsWellFormed}
use Rattle.hol_model.specs.Kernel.Rules.{define_outcome}
use Rattle.hol_model.specs.Texts.Reading.{Scope}
use Rattle.hol_model_sessions.specs.Sessions.{definition_name, with_theorem, scope_in}
use Rattle.hol_model_sessions.specs.Replies.{text_of_theorem}
use Rattle.hol_model_sessions.specs.ScriptSessions.{IsProved}
use Rattle.hol_journal.specs.Journal.{Recorded, IsMade}
use Rattle.hol_journal.specs.Growth.{IsGrown}
use Rattle.hol_theorem_library.specs.declared.library.Library.{Library}
use Rattle.hol_theorem_store.specs.Stored.{StoresTheorem, KeepsStore}
use Rattle.hol_theorem_store.specs.Store.{stored_of}
use Rattle.hol_syntax.specs.Scope.{scope_of}
use Rattle.hol_script_session.specs.declared.lines.TheoremLine.{TheoremLine}
use Rattle.hol_script_session.specs.declared.session.Session.{Session}
use Rattle.hol_script_session.specs.declared.reply.Printed.{Printed}
use Rattle.hol_script_session.specs.SessionState.{state_of}
use Rattle.hol_script_session.specs.Answers.{Beside, with_beside, IsLineOf, printed_text, printed_name}

-- some refusal is the outcome
abbrev pub IsRefused : {A : Type 0} → Result A Fault → Type 0
IsRefused outcome = (fault : Fault) × (outcome ≡ Err fault)

-- want of memory is told; any other refusal leaves nothing
abbrev pub LeavesNone : Result (Option NamedTerm) Fault → Fault → Type 0
LeavesNone (Ok (Some made)) fault = ⊥
LeavesNone (Ok None) fault = fault ≢ Memory
LeavesNone (Err told) fault = told ≡ Memory

-- the equation of a definition, or none where every theory refuses the definition
abbrev pub MakesEquation : Result (Option NamedTerm) Fault → List ℕ → NamedTerm → Type 0
MakesEquation (Ok (Some made)) name term = made ≡ equation (constant name (own_type term)) term
MakesEquation (Ok None) name term = (theory : Theory) → IsRefused (define_outcome theory name term)
MakesEquation (Err fault) name term = fault ≡ Memory

-- the line of a definition's theorem, or none where every theory refuses the definition
abbrev pub MakesLine : Result (Option TheoremLine) Fault → Scope → List ℕ → List ℕ → NamedTerm → Type 0
MakesLine (Ok (Some line)) scope name stored term =
    IsLineOf line scope stored (record { theory = []; hypotheses = []; conclusion = equation (constant name (own_type term)) term })
MakesLine (Ok None) scope name stored term = (theory : Theory) → IsRefused (define_outcome theory name term)
MakesLine (Err fault) scope name stored term = fault ≡ Memory

-- the theorems from which rules are made are those of before
pub record KeepsLaws (old new : Library) : Type 0 where
  pub logic : new.logic ≡ old.logic
  pub laws : new.laws ≡ old.laws

-- the theory has the definition, its theorem is stored, and the line is the theorem's
pub record Defines (old new : Session) (name : List ℕ) (term : NamedTerm) (line : TheoremLine) : Type 0 where
  pub answer : Recorded
  pub outcome : define_outcome old.library.recorder.theory name term ≡ Ok answer.theorem
  pub well_formed : IsWellFormed answer.theorem
  pub theory : new.library.recorder.theory ≡ answer.theorem.theory
  pub made : IsMade new.library.recorder answer
  pub grown : IsGrown old.library.recorder new.library.recorder
  pub scope : new.scope ≡ old.scope
  pub kept : KeepsLaws old.library new.library
  pub stored : StoresTheorem (stored_of old.library.store) (stored_of new.library.store) (definition_name name) answer
  pub line_is : IsLineOf line (scope_of old.scope) (definition_name name) answer.theorem

-- The theorem is stored under the name and printed; it is proved, whatever lemmas and goal stand beside the library.
pub record Stores (old new : Session) (name : List ℕ) (theorem : Theorem) (printed : Printed) : Type 0 where
  pub spelled : printed_text printed ≡ text_of_theorem (scope_in (state_of new)) (record { name = name; theorem = theorem })
  pub named : printed_name printed ≡ Some name
  pub state : state_of new ≡ with_theorem (state_of old) name theorem
  pub proved : (beside : Beside) → IsProved (with_beside beside (state_of new)) theorem

-- the journal, the scope, the store and the theorems from which rules are made are those of before
pub record KeepsSession (old new : Session) : Type 0 where
  pub recorder : new.library.recorder ≡ old.library.recorder
  pub scope : new.scope ≡ old.scope
  pub store : KeepsStore (stored_of old.library.store) (stored_of new.library.store)
  pub kept : KeepsLaws old.library new.library
