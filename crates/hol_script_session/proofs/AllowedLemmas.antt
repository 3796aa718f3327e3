-- What may come of each command.
use Rattle.std.proofs.Common.{◌≡◌, ℕ, List, Option, None, Some, Result, Ok, Err, inl, inr, refl, sym, ap}
use Rattle.hol_model.specs.declared.fault.Fault.{Fault}
use Rattle.hol_model.specs.declared.fault.Fault.TheVariants.{Memory, UnknownName}
use Rattle.hol_model.specs.Terms.HolType.{HolType}
use Rattle.hol_model.specs.Logic.Theory.{Theory}
use Rattle.hol_model.specs.Kernel.Outcome.{given}
use Rattle.hol_model.specs.Kernel.Theorem.{Theorem}
use Rattle.hol_model.specs.Kernel.Rules.{new_type_outcome}
use Rattle.hol_model.specs.Texts.TypeGrammar.{TypeTree}
use Rattle.hol_model.specs.Texts.TermGrammar.{TermTree}
use Rattle.hol_model.specs.Texts.Reading.{type_meaning, ◌>>=◌}
use Rattle.hol_model_sessions.specs.CommandGrammar.{CommandTree, var_command, newtype_command, newconst_command, def_command, show_command}
use Rattle.hol_model_sessions.specs.Sessions.{scope_in, with_variable, over_theory, definition_name, def_outcome, with_definition, newconst_outcome}
use Rattle.hol_model_sessions.specs.Sessions.{State as Library}
use Rattle.hol_model_sessions.specs.Replies.{Message, nothing, theorem_line, refusal_of}
use Rattle.hol_model_sessions.specs.ScriptSessions.{Tools, says_nothing, says_theorem, with_library}
use Rattle.hol_script_session.specs.Answers.{Beside, with_beside}
use Rattle.hol_script_session.specs.Performing.{ComesTo}

-- there may be a refusal without a row
pub record AllowsRefusal (tools : Tools) (lemmas : List Theorem) (library : Library) (command : CommandTree) (fault : Fault) : Type 0 where
  pub allowed : (beside : Beside) → beside.lemmas ≡ lemmas → ComesTo tools (with_beside beside library) command (Err (refusal_of fault))

-- there may be the message, and this library left
pub record AllowsMessage (tools : Tools) (lemmas : List Theorem) (old : Library) (command : CommandTree) (message : Message) (new : Library) : Type 0 where
  pub allowed : (beside : Beside) → beside.lemmas ≡ lemmas → ComesTo tools (with_beside beside old) command (Ok (record { message = message; after = with_beside beside new }))

pub lacks_memory : {tools : Tools} {lemmas : List Theorem} {library : Library} {command : CommandTree} → AllowsRefusal tools lemmas library command Memory
lacks_memory = record { allowed = λ beside same. inl refl }

-- ---- declarations

pub var_is_refused : {tools : Tools} {lemmas : List Theorem} {library : Library} {name : List ℕ} {tree : TypeTree} {fault : Fault}
    → type_meaning (scope_in library) tree ≡ Err fault → AllowsRefusal tools lemmas library (var_command name tree) fault
var_is_refused {tools} {lemmas} {library} {name} {tree} {fault} is = record {
  allowed = λ beside same.
      inr (sym (ap (λ (r : Result HolType Fault). r >>= λ ty. Ok (says_nothing (with_library (with_beside beside library) (with_variable library name ty)))) is), refl);
}

pub var_declares : {tools : Tools} {lemmas : List Theorem} {library : Library} {name : List ℕ} {tree : TypeTree} {ty : HolType}
    → type_meaning (scope_in library) tree ≡ Ok ty → AllowsMessage tools lemmas library (var_command name tree) nothing (with_variable library name ty)
var_declares {tools} {lemmas} {library} {name} {tree} {ty} is = record {
  allowed = λ beside same.
      inr (sym (ap (λ (r : Result HolType Fault). r >>= λ t. Ok (says_nothing (with_library (with_beside beside library) (with_variable library name t)))) is));
}

pub newtype_is_refused : {tools : Tools} {lemmas : List Theorem} {library : Library} {name : List ℕ} {fault : Fault}
    → new_type_outcome library.theory name ≡ Err fault → AllowsRefusal tools lemmas library (newtype_command name) fault
newtype_is_refused {tools} {lemmas} {library} {name} {fault} is = record {
  allowed = λ beside same.
      inr (sym (ap (λ (r : Result Theory Fault). r >>= λ theory. Ok (says_nothing (with_library (with_beside beside library) (over_theory library theory)))) is), refl);
}

pub newtype_declares : {tools : Tools} {lemmas : List Theorem} {library : Library} {name : List ℕ} {theory : Theory}
    → new_type_outcome library.theory name ≡ Ok theory → AllowsMessage tools lemmas library (newtype_command name) nothing (over_theory library theory)
newtype_declares {tools} {lemmas} {library} {name} {theory} is = record {
  allowed = λ beside same.
      inr (sym (ap (λ (r : Result Theory Fault). r >>= λ t. Ok (says_nothing (with_library (with_beside beside library) (over_theory library t)))) is));
}

pub newconst_is_refused : {tools : Tools} {lemmas : List Theorem} {library : Library} {name : List ℕ} {tree : TypeTree} {fault : Fault}
    → newconst_outcome library name tree ≡ Err fault → AllowsRefusal tools lemmas library (newconst_command name tree) fault
newconst_is_refused {tools} {lemmas} {library} {name} {tree} {fault} is = record {
  allowed = λ beside same.
      inr (sym (ap (λ (r : Result Theory Fault). r >>= λ theory. Ok (says_nothing (with_library (with_beside beside library) (over_theory library theory)))) is), refl);
}

pub newconst_declares : {tools : Tools} {lemmas : List Theorem} {library : Library} {name : List ℕ} {tree : TypeTree} {theory : Theory}
    → newconst_outcome library name tree ≡ Ok theory → AllowsMessage tools lemmas library (newconst_command name tree) nothing (over_theory library theory)
newconst_declares {tools} {lemmas} {library} {name} {tree} {theory} is = record {
  allowed = λ beside same.
      inr (sym (ap (λ (r : Result Theory Fault). r >>= λ t. Ok (says_nothing (with_library (with_beside beside library) (over_theory library t)))) is));
}

pub def_is_refused : {tools : Tools} {lemmas : List Theorem} {library : Library} {name : List ℕ} {tree : TermTree} {fault : Fault}
    → def_outcome library name tree ≡ Err fault → AllowsRefusal tools lemmas library (def_command name tree) fault
def_is_refused {tools} {lemmas} {library} {name} {tree} {fault} is = record {
  allowed = λ beside same.
      inr (sym (ap (λ (r : Result Theorem Fault). r >>= λ t. Ok (says_theorem (definition_name name) t (with_library (with_beside beside library) (with_definition library name t)))) is), refl);
}

pub def_defines : {tools : Tools} {lemmas : List Theorem} {library : Library} {name : List ℕ} {tree : TermTree} {theorem : Theorem}
    → def_outcome library name tree ≡ Ok theorem → AllowsMessage tools lemmas library (def_command name tree) (theorem_line (definition_name name) theorem) (with_definition library name theorem)
def_defines {tools} {lemmas} {library} {name} {tree} {theorem} is = record {
  allowed = λ beside same.
      inr (sym (ap (λ (r : Result Theorem Fault). r >>= λ t. Ok (says_theorem (definition_name name) t (with_library (with_beside beside library) (with_definition library name t)))) is));
}

-- ---- stored theorems

pub show_finds_none : {tools : Tools} {lemmas : List Theorem} {library : Library} {name : List ℕ} → library.theorems name ≡ None → AllowsRefusal tools lemmas library (show_command name) UnknownName
show_finds_none {tools} {lemmas} {library} {name} is = record {
  allowed = λ beside same.
      inr (sym (ap (λ (found : Option Theorem). given found UnknownName (λ t. Ok (says_theorem name t (with_beside beside library)))) is), refl);
}

pub show_prints : {tools : Tools} {lemmas : List Theorem} {library : Library} {name : List ℕ} {theorem : Theorem} → library.theorems name ≡ Some theorem
    → AllowsMessage tools lemmas library (show_command name) (theorem_line name theorem) library
show_prints {tools} {lemmas} {library} {name} {theorem} is = record {
  allowed = λ beside same.
      inr (sym (ap (λ (found : Option Theorem). given found UnknownName (λ t. Ok (says_theorem name t (with_beside beside library)))) is));
}
