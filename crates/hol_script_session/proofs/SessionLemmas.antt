-- What names stand for in a session, and what its commands do.
use Rattle.std.proofs.Common.{◌≡◌, ◌⊎◌, inl, inr, ℕ, List, ◌++◌, refl, sym, ap, subst, ◌∙◌, append-nil, Option, None, Some, Result, Ok, Err, Bor}
use Rattle.std.specs.Prelude.{true, false, codes, decimal}
use Rattle.std.specs.Option.{option_map, is_some}
use Rattle.hol_model.specs.declared.fault.Fault.{Fault}
use Rattle.hol_model.specs.declared.fault.Fault.TheVariants.{Memory, NameTaken}
use Rattle.hol_model.specs.Kernel.Fault.{number_of, name_of}
use Rattle.hol_model.specs.Kernel.Theorem.{Theorem, IsWellFormed}
use Rattle.hol_model.specs.Logic.Theory.{IsEarlier}
use Rattle.hol_sound.specs.Laws.{IsSound}
use Rattle.hol_model.specs.Texts.Reading.{Scope}
use Rattle.hol_model_sessions.specs.CommandGrammar.{CommandTree}
use Rattle.hol_model_sessions.specs.Sessions.{scope_in, is_theorem_name, with_theorem}
use Rattle.hol_model_sessions.specs.Sessions.{State as Library}
use Rattle.hol_model_sessions.specs.Replies.{nothing, theorem_line, refusal_of, Reply, text_of_theorem, reply_text}
use Rattle.hol_model_sessions.specs.ScriptSessions.{Tools, IsProved}
use Rattle.hol_syntax.specs.Scope.{scope_of}
use Rattle.hol_journal.specs.Journal.{Recorded}
use Rattle.hol_script_session.specs.declared.session.Session.{Session}
use Rattle.hol_script_session.specs.declared.lines.TheoremLine.{TheoremLine}
use Rattle.hol_script_session.specs.declared.reply.Printed.{Printed}
use Rattle.hol_script_session.specs.declared.reply.Printed.TheVariants.{Nothing, Line}
use Rattle.hol_script_session.specs.declared.reply.Refused.{Refused}
use Rattle.hol_script_session.specs.SessionState.{state_of, theorem_of, IsSession}
use Rattle.hol_script_session.specs.Answers.{Beside, with_beside, IsLineOf, Says, answer_text, plain, IsNewName, TestsName, PerformsWith}
use Rattle.hol_script_session.specs.Growth.{Stores}
use Rattle.hol_script_session.proofs.RuleLemmas.{proved}
use Rattle.hol_script_session.proofs.AllowedLemmas.{AllowsRefusal, AllowsMessage, lacks_memory}

-- the scope of a session is that of its state
pub scope_same : (session : Session) → IsSession session → scope_of session.scope ≡ scope_in (state_of session)
scope_same session known = λ i. record {
  generic_type = λ name. known.scope.constants name i;
  variable_type = (scope_of session.scope).variable_type;
  declares_type = λ name. known.scope.types name i;
}

-- ---- commands

-- a refusal that is allowed leaves the state
pub refuses : {tools : Tools} {lemmas : List Theorem} (state : Library) (command : CommandTree) (fault : Fault)
    → AllowsRefusal tools lemmas state command fault → PerformsWith tools lemmas state command (Err (plain fault)) state
refuses state command fault allows = record {
  performs = λ beside same. record {
    outcome = Err (refusal_of fault);
    comes = allows.allowed beside same;
    leaves = refl;
    says = record { same_fault = refl; spelled = refl };
    is_true = record { theorem = tt; goals = tt; row = tt };
  };
}

pub forgets : {tools : Tools} {lemmas : List Theorem} (state : Library) (command : CommandTree) (fault : Fault) → fault ≡ Memory → PerformsWith tools lemmas state command (Err (plain fault)) state
forgets {tools} {lemmas} state command fault same = refuses state command fault (subst (λ f. AllowsRefusal tools lemmas state command f) (sym same) lacks_memory)

-- a theorem that is allowed and proved, and its line
pub prints : {tools : Tools} {lemmas : List Theorem} (old new : Library) (command : CommandTree) (name : List ℕ) (theorem : Theorem) (line : TheoremLine)
    → AllowsMessage tools lemmas old command (theorem_line name theorem) new
    → ((beside : Beside) → IsProved (with_beside beside new) theorem) → IsLineOf line (scope_in new) name theorem → PerformsWith tools lemmas old command (Ok (Line line)) new
prints old new command name theorem line allows proved says = record {
  performs = λ beside same. record {
    outcome = Ok (record { message = theorem_line name theorem; after = with_beside beside new });
    comes = allows.allowed beside same;
    leaves = refl;
    says = record {
      spelled = says.spelled ∙ sym (append-nil (text_of_theorem (scope_in new) (record { name = name; theorem = theorem })));
      named = ap (λ n. Some n) says.named;
    };
    is_true = record { theorem = proved beside; goals = tt; row = tt };
  };
}

-- an acceptance that prints nothing
pub is_silent : {tools : Tools} {lemmas : List Theorem} (old new : Library) (command : CommandTree)
    → AllowsMessage tools lemmas old command nothing new → PerformsWith tools lemmas old command (Ok Nothing) new
is_silent old new command allows = record {
  performs = λ beside same. record {
    outcome = Ok (record { message = nothing; after = with_beside beside new });
    comes = allows.allowed beside same;
    leaves = refl;
    says = record { spelled = refl; named = refl };
    is_true = record { theorem = tt; goals = tt; row = tt };
  };
}

-- no memory, where the state is that of before
pub forgets_here : {tools : Tools} {lemmas : List Theorem} (old new : Library) (command : CommandTree) (fault : Fault) → new ≡ old → fault ≡ Memory
    → PerformsWith tools lemmas old command (Err (plain fault)) new
forgets_here {tools} {lemmas} old new command fault same memory =
    subst (λ (state : Library). PerformsWith tools lemmas old command (Err (plain fault)) state) (sym same) (forgets old command fault memory)

-- a refusal that is allowed, or no memory, where the state is that of before
pub refuses_by : {P : Type 0} {tools : Tools} {lemmas : List Theorem} (old new : Library) (command : CommandTree) (fault : Fault) → new ≡ old
    → (fault ≡ Memory) ⊎ P → (P → AllowsRefusal tools lemmas old command fault)
    → PerformsWith tools lemmas old command (Err (plain fault)) new
refuses_by {P} {tools} {lemmas} old new command fault same (inl memory) allowed = forgets_here old new command fault same memory
refuses_by {P} {tools} {lemmas} old new command fault same (inr because) allowed =
    subst (λ (state : Library). PerformsWith tools lemmas old command (Err (plain fault)) state) (sym same) (refuses old command fault (allowed because))

-- what is written for an answer is the text of the reply that it says
pub said-text : (answer : Result Printed Refused) (line : ℕ) (scope : Scope) (reply : Reply) → Says answer scope reply → answer_text line answer ≡ reply_text line scope reply
said-text (Ok printed) line scope (Ok message) says = says.spelled
said-text (Err refused) line scope (Err refusal) says = λ i.
    codes "line " ++ decimal line ++ codes ": E" ++ decimal (number_of (says.same_fault i)) ++ codes " " ++ name_of (says.same_fault i) ++ says.spelled i ++ codes "\n"
said-text (Ok printed) line scope (Err refusal) never = absurd never
said-text (Err refused) line scope (Ok message) never = absurd never

-- ---- theorems

-- whether the name may be given, and stands for nothing
pub name_tested : (state : Library) (name : List ℕ) (found : Option (Bor Recorded)) (stored : Option Recorded)
    → option_map (λ (made : Bor Recorded). made.now) found ≡ stored → theorem_of stored ≡ state.theorems name → is_theorem_name name ≡ true → is_some found ≡ false → IsNewName state name
name_tested state name None stored same is named none = record { named = named; none = sym is ∙ ap theorem_of (sym same) }
name_tested state name (Some made) stored same is named none = cc

pub name_taken : (state : Library) (name : List ℕ) (found : Option (Bor Recorded)) (stored : Option Recorded)
    → option_map (λ (made : Bor Recorded). made.now) found ≡ stored → theorem_of stored ≡ state.theorems name → is_theorem_name name ≡ true → is_some found ≡ true
    → TestsName {A = Unit {0}} state name (Err NameTaken)
name_taken state name None stored same is named there = cc
name_taken state name (Some made) stored same is named there = inr (refl, named, ap is_some (sym is ∙ ap theorem_of (sym same)))

-- a theorem that is proved in a state is so once it is stored
proved_with : (beside : Beside) (state : Library) (name : List ℕ) (theorem : Theorem) → IsProved (with_beside beside state) theorem
    → IsProved (with_beside beside (with_theorem state name theorem)) theorem
proved_with beside state name theorem p = record {
  legal = p.legal;
  derivable = p.derivable;
  holds = p.holds;
  ordered = p.ordered;
  readable_hypotheses = p.readable_hypotheses;
  readable_conclusion = p.readable_conclusion;
}

-- a theorem that the recorder made is stored and printed
pub keeps_line : (old new : Session) (name : List ℕ) (theorem : Theorem) (line : TheoremLine) → IsSession old → IsSound → IsWellFormed theorem → IsEarlier theorem.theory old.library.recorder.theory
    → IsLineOf line (scope_of old.scope) name theorem → state_of new ≡ with_theorem (state_of old) name theorem → Stores old new name theorem (Line line)
keeps_line old new name theorem line known sound formed earlier is_line same =
    let said : IsLineOf line (scope_in (state_of old)) name theorem = subst (λ (scope : Scope). IsLineOf line scope name theorem) (scope_same old known) is_line in
    record {
      spelled = said.spelled ∙ ap (λ (s : Library). text_of_theorem (scope_in s) (record { name = name; theorem = theorem })) (sym same);
      named = ap (λ n. Some n) said.named;
      state = same;
      proved = λ beside. subst (λ (s : Library). IsProved (with_beside beside s) theorem) (sym same)
          (proved_with beside (state_of old) name theorem (proved (with_beside beside (state_of old)) theorem sound known.legal formed earlier));
    }
