-- What is shown of the goals of a manager, and what calls do and leave.
use Rattle.std.proofs.Common.{◌≡◌, ◌⊎◌, inl, inr, ⊎_elim, ℕ, List, [], map, refl, sym, ap, subst, ◌∙◌, append-nil, true, Option, None, Some, Result, Ok, Err}
use Rattle.std.specs.Prelude.{IfSome, IfOk, IfErr, OnOk, OnErr, is_some, false, slice_get}
use Rattle.std.specs.List.{list_all}
use Rattle.std.specs.Option.{option_map}
use Rattle.hol_model.specs.declared.fault.Fault.{Fault}
use Rattle.hol_model.specs.declared.fault.Fault.TheVariants.{Memory}
use Rattle.hol_model.specs.Logic.Theory.{Theory}
use Rattle.hol_model.specs.Goals.Goals.{Sequent}
use Rattle.hol_model.specs.Goals.Strength.{AnswersAsStrong}
use Rattle.hol_model.specs.Kernel.Theorem.{Theorem, IsWellFormed}
use Rattle.hol_model.specs.Texts.Reading.{Scope}
use Rattle.hol_model.specs.Goals.JustificationLaws.{IsLaterStore}
use Rattle.hol_model.specs.Goals.Replays.{Store, sequent_of_theorem, sequents_in}
use Rattle.hol_model.specs.Goals.GoalStates.{Proof, Stack, open_goals, goals_of_proof, back_outcome, rotate_outcome, top_outcome, changed_stack, reverted, reverted_to}
use Rattle.hol_model.specs.Goals.StackCalls.{Changes}
use Rattle.hol_model.specs.Goals.GoalLaws.{IsValidProof, IsValidIfAny, IsValidStack}
use Rattle.hol_model_sessions.specs.CommandGrammar.{CommandTree, p_command, save_command}
use Rattle.hol_model_sessions.specs.Sessions.{State as Library, with_theorem}
use Rattle.hol_model_sessions.specs.Replies.{text_of_goals, text_of_theorem, refusal_of, Reply, theorem_line, goal_lines}
use Rattle.hol_model_sessions.specs.ScriptSessions.{State, start, scope_in, store_in, with_library, with_proof, says_goals, Tools, May, IsProved}
use Rattle.hol_laws_sessions.specs.ValidSessions.{IsTold}
use Rattle.hol_laws_sessions.proofs.StoredTheorems.{start-told}
use Rattle.hol_sound.specs.Laws.{IsSound}
use Rattle.hol_laws_steps.proofs.FewerHypotheses.{IsAsStrong-self}
use Rattle.hol_laws_goals.proofs.ValidProofs.{revert-valid, if_any-stays}
use Rattle.hol_journal.specs.Journal.{Journal, Recorded, IsMade}
use Rattle.hol_just.specs.declared.goal.Goal as code
use Rattle.hol_just.specs.Steps.{goals_of}
use Rattle.hol_syntax.specs.Scope.{scope_of}
use Rattle.hol_theorem_store.specs.Stored.{theorems_in}
use Rattle.hol_theorem_store.specs.Store.{stored_of}
use Rattle.hol_goals.specs.Stages.{stack_of, HasGoals}
use Rattle.hol_goals.specs.Made.{KeepsMade}
use Rattle.hol_goals.proofs.Made.{kept_stay_made}
use Rattle.hol_goals.specs.declared.stack.Stack as stacks
use Rattle.hol_script_inference.specs.Sessions as sessions
use Rattle.hol_script_inference.specs.Sessions.{Session, IsSession, IsLaterLibrary, lemmas_of, Printed, printed_text, printed_name, Performs, Says, plainly}
use Rattle.hol_script_inference.specs.Sessions.{Beside, with_beside, IsNewName, TestsName, Stores, scope_same, proved}
use Rattle.hol_script_manager.specs.declared.manager.Manager.{Manager}
use Rattle.hol_script_manager.specs.GoalTexts.{is_well_formed}
use Rattle.hol_script_manager.specs.Managers.{state_of, IsManager, ShowsGoals, IsUndone}
use Rattle.hol_script_manager.proofs.Shown.{goals_shown}
use Rattle.hol_script_manager.proofs.GoalTurns.{refused_turn, goals_turn, theorem_turn, p_done, save_misnamed, save_taken, save_refused, save_done}

-- ---- what stands in a manager

abbrev pub theory_in : Manager → Theory
theory_in manager = manager.prover.session.library.recorder.theory

abbrev pub journal_in : Manager → Journal
journal_in manager = manager.prover.session.library.recorder

-- the scope of its session is that of its state
pub scope_known : (manager : Manager) → IsManager manager → scope_of manager.prover.session.scope ≡ scope_in (state_of manager)
scope_known manager is = scope_same manager.prover.session is.session

-- where a script begins
pub begins : (manager : Manager) → sessions.state_of manager.prover.session ≡ start.library → lemmas_of manager.prover.session ≡ []
    → stack_of manager.stack ≡ record { proof = None; before = None } → state_of manager ≡ start
begins manager library lemmas empty = λ i. record { library = library i; lemmas = lemmas i; proof = (empty i).proof }

pub begun_manager : (manager : Manager) → IsSession manager.prover.session → sessions.state_of manager.prover.session ≡ start.library
    → stack_of manager.stack ≡ record { proof = None; before = None } → KeepsMade (journal_in manager) manager.stack → IsManager manager
begun_manager manager known library empty made = record {
  session = known;
  stack = subst (IsValidStack (theory_in manager) (theorems_in (stored_of manager.prover.session.library.store))) (sym empty) (record { proof = tt; before = tt });
  made = made;
  told = subst IsTold (sym library) start-told;
}

-- ---- what is shown

-- the theorem of the goal is proved
pub top_proved : (manager : Manager) (made : Recorded) (theorem : Theorem) → IsManager manager → IsSound → IsWellFormed made.theorem → IsMade (journal_in manager) made
    → Ok made.theorem ≡ top_outcome (state_of manager).proof → top_outcome (state_of manager).proof ≡ Ok theorem → IsProved (state_of manager) theorem
top_proved manager made theorem is sound formed is_made told same =
    let whole : Ok made.theorem ≡ Ok theorem = told ∙ same in
    let one : made.theorem ≡ theorem = cc in
    subst (IsProved (state_of manager)) one (proved (state_of manager) made.theorem sound is.session.legal formed is_made.earlier)

pub no_top : (found : Option Proof) (state : State) (fault : Fault) (theorem : Theorem) → Err fault ≡ top_outcome found → top_outcome found ≡ Ok theorem → IsProved state theorem
no_top found state fault theorem told same = (let never : Err fault ≡ Ok theorem = told ∙ same in cc)

pub shows : (manager : Manager) (goals : List code.Goal) (printed : Printed) → IsManager manager → IfSome (stack_of manager.stack).proof (λ proof. HasGoals proof.stage)
    → goals_of goals ≡ goals_of_proof (stack_of manager.stack).proof → list_all is_well_formed goals ≡ true
    → ((theorem : Theorem) → top_outcome (state_of manager).proof ≡ Ok theorem → IsProved (state_of manager) theorem)
    → printed_text printed ≡ text_of_goals (scope_of manager.prover.session.scope) (goals_of goals) → printed_name printed ≡ None → ShowsGoals (state_of manager) printed
shows manager goals printed is some same formed is_proved spelled unnamed = record {
  spelled =
      spelled ∙ ap (λ (s : Scope). text_of_goals s (goals_of goals)) (scope_known manager is) ∙ ap (text_of_goals (scope_in (state_of manager))) same;
  unnamed = unnamed;
  shown = λ proof here.
      goals_shown (state_of manager) proof goals here
      (subst (λ (found : Option Proof). IsValidIfAny (theory_in manager) (store_in (state_of manager)) found) here is.stack.proof)
      (subst (λ (found : Option Proof). IfSome found (λ (p : Proof). HasGoals p.stage)) here some)
      (same ∙ ap goals_of_proof here) formed is_proved;
}

-- ---- commands

-- a refusal, which leaves the state
pub refuses : {tools : Tools} (old new : State) (tree : CommandTree) (fault : Fault) → new ≡ old
    → (fault ≡ Memory) ⊎ May tools old tree (Err (refusal_of fault)) → Performs tools old tree (Says (plainly (Err fault))) new
refuses {tools} old new tree fault same why =
    subst (λ (s : State). Performs tools old tree (Says (plainly (Err fault))) s) (sym same)
    (refused_turn old tree fault why (record { same_fault = refl; spelled = refl }))

-- goals are shown
pub shows_turn : {tools : Tools} (old new : State) (tree : CommandTree) (proof : Proof) (printed : Printed)
    → May tools old tree (Ok (record { message = goal_lines (open_goals proof.stage); after = new })) → new.proof ≡ Some proof → ShowsGoals new printed
    → Performs tools old tree (Says (plainly (Ok printed))) new
shows_turn old new tree proof printed may here shown =
    goals_turn old new tree proof may (shown.shown proof here)
    (record { spelled = shown.spelled ∙ ap (λ (found : Option Proof). text_of_goals (scope_in new) (goals_of_proof found)) here; named = shown.unnamed })

-- the same, of a state that is told by an equation
pub shows_after : {tools : Tools} (old new made : State) (tree : CommandTree) (proof : Proof) (printed : Printed) → new ≡ made
    → May tools old tree (Ok (record { message = goal_lines (open_goals proof.stage); after = made })) → made.proof ≡ Some proof → ShowsGoals new printed
    → Performs tools old tree (Says (plainly (Ok printed))) new
shows_after {tools} old new made tree proof printed same may here shown =
    subst (λ (s : State). Performs tools old tree (Says (plainly (Ok printed))) s) (sym same)
    (shows_turn old made tree proof printed may here (subst (λ (s : State). ShowsGoals s printed) same shown))

-- ---- p

pub unset_there : (found : Option Proof) → false ≡ is_some found → found ≡ None
unset_there None is = refl
unset_there (Some proof) is = cc

pub set_there : (found : Option Proof) → true ≡ is_some found → (proof : Proof) × (found ≡ Some proof)
set_there None is = cc
set_there (Some proof) is = (proof, refl)

-- a proof is as it stands
as_is : (state : State) (proof : Proof) → state.proof ≡ Some proof → state ≡ record { library = state.library; lemmas = state.lemmas; proof = Some proof }
as_is state proof here = λ i. record { library = state.library; lemmas = state.lemmas; proof = here i }

pub p_turn : {tools : Tools} (manager : Manager) (result : Result Printed Fault) (proof : Proof) → (state_of manager).proof ≡ Some proof
    → IfOk result (ShowsGoals (state_of manager)) → IfErr result (λ fault. fault ≡ Memory) → Performs tools (state_of manager) p_command (Says (plainly result)) (state_of manager)
p_turn {tools} manager (Ok printed) proof here shown memory =
    let state = state_of manager in
    shows_after state state (with_proof state proof) p_command proof printed (as_is state proof here) (p_done tools state proof here) refl shown
p_turn {tools} manager (Err fault) proof here shown memory = refuses (state_of manager) (state_of manager) p_command fault refl (inl memory)

-- ---- stacks that change

-- the manager with another stack
abbrev pub with_stack : Manager → stacks.Stack → Manager
with_stack manager stack = record manager { stack = stack }

pub stack_state : (manager : Manager) (stack : stacks.Stack) (proof : Option Proof) → (stack_of stack).proof ≡ proof
    → state_of (with_stack manager stack) ≡ record { library = (state_of manager).library; lemmas = (state_of manager).lemmas; proof = proof }
stack_state manager stack proof same = λ i. record { library = (state_of manager).library; lemmas = (state_of manager).lemmas; proof = same i }

-- it is one, where the stack is sound and of theorems that its recorder made
pub stack_manager : (manager : Manager) (stack : stacks.Stack) → IsManager manager → IsValidStack (theory_in manager) (store_in (state_of manager)) (stack_of stack)
    → KeepsMade (journal_in manager) stack → IsManager (with_stack manager stack)
stack_manager manager stack is valid made = record { session = is.session; stack = valid; made = made; told = is.told }

-- so it is, where the stack is that of before
pub unset_manager : (manager : Manager) → IsManager manager → (stack : stacks.Stack) → stack_of stack ≡ stack_of manager.stack → KeepsMade (journal_in manager) stack
    → IsManager (with_stack manager stack)
unset_manager manager is stack same made =
    stack_manager manager stack is (subst (IsValidStack (theory_in manager) (store_in (state_of manager))) (sym same) is.stack) made

-- the stack one change further
pub changed_valid : (theory : Theory) (store : Store) (old new : Stack) (proof : Proof) → IsValidStack theory store old → new ≡ changed_stack old proof → IsValidProof theory store proof
    → IsValidStack theory store new
changed_valid theory store old new proof valid same good = subst (IsValidStack theory store) (sym same) (record { proof = good; before = valid.proof })

-- the last change undone, the stack is that of before, but for what can be undone
undone : (old mid new : Stack) (proof there : Proof) → mid ≡ changed_stack old proof → new ≡ reverted mid → old.proof ≡ Some there → new ≡ record { proof = Some there; before = None }
undone old mid new proof there changed is_undone is = is_undone ∙ ap reverted changed ∙ ap (reverted_to (changed_stack old proof)) is

pub undone_over : (theory : Theory) (store : Store) (old mid new : Stack) (proof there : Proof) → mid ≡ changed_stack old proof → new ≡ reverted mid → old.proof ≡ Some there
    → IsValidStack theory store old → IsValidStack theory store new
undone_over theory store old mid new proof there changed is_undone is valid =
    subst (IsValidStack theory store) (sym (undone old mid new proof there changed is_undone is))
    (record { proof = subst (λ (found : Option Proof). IsValidIfAny theory store found) is valid.proof; before = tt })

pub undone_same : (old mid new : Stack) (proof there : Proof) → mid ≡ changed_stack old proof → new ≡ reverted mid → old.proof ≡ Some there → new.proof ≡ old.proof
undone_same old mid new proof there changed is_undone is = ap (λ (s : Stack). s.proof) (undone old mid new proof there changed is_undone is) ∙ sym is

pub undone_valid : (theory : Theory) (store : Store) (mid new : Stack) → IsValidStack theory store mid → new ≡ reverted mid → IsValidStack theory store new
undone_valid theory store mid new valid undone = subst (IsValidStack theory store) (sym undone) (revert-valid theory store mid valid)

-- ---- b, r

pub back_there : (found : Option Proof) (proof : Proof) → back_outcome found ≡ Ok proof → (there : Proof) × (found ≡ Some there)
back_there None proof is = cc
back_there (Some there) proof is = (there, refl)

pub rotate_there : (found : Option Proof) (turns : ℕ) (proof : Proof) → rotate_outcome found turns ≡ Ok proof → (there : Proof) × (found ≡ Some there)
rotate_there None turns proof is = cc
rotate_there (Some there) turns proof is = (there, refl)

-- the manager behind a change that is sound
pub changed_manager : (manager : Manager) (stack : stacks.Stack) (proof : Proof) → IsManager manager → stack_of stack ≡ changed_stack (stack_of manager.stack) proof
    → IsValidProof (theory_in manager) (store_in (state_of manager)) proof → KeepsMade (journal_in manager) stack → IsManager (with_stack manager stack)
changed_manager manager stack proof is changed good made =
    stack_manager manager stack is (changed_valid (theory_in manager) (store_in (state_of manager)) (stack_of manager.stack) (stack_of stack) proof is.stack changed good) made

-- a change of the stack is refused
pub unchanged_turn : {tools : Tools} {outcome : Result Proof Fault} (manager : Manager) (stack : stacks.Stack) (tree : CommandTree) (fault : Fault)
    → (outcome ≡ Err fault → May tools (state_of manager) tree (Err (refusal_of fault)))
    → Changes (Err fault) outcome (changed_stack (stack_of manager.stack)) (stack_of manager.stack) (stack_of stack)
    → Performs tools (state_of manager) tree (Says (plainly (Err fault))) (state_of (with_stack manager stack))
unchanged_turn manager stack tree fault may changes =
    refuses (state_of manager) (state_of (with_stack manager stack)) tree fault
    (stack_state manager stack (stack_of manager.stack).proof (ap (λ (s : Stack). s.proof) changes.1))
    (⊎_elim (λ memory. inl memory) (λ refused. inr (may refused)) changes.0)

-- the stack has changed, and its goals are shown; or there is no memory, and the change is undone
pub changed_turn : {tools : Tools} (manager : Manager) (stack : stacks.Stack) (tree : CommandTree) (proof there : Proof) (result : Result Printed Fault) (new : Manager)
    → May tools (state_of manager) tree (Ok (says_goals (state_of manager) proof)) → stack_of stack ≡ changed_stack (stack_of manager.stack) proof → (stack_of manager.stack).proof ≡ Some there
    → IfOk result (ShowsGoals (state_of (with_stack manager stack))) → OnOk result (new ≡ with_stack manager stack) → OnErr result (IsUndone (with_stack manager stack) new)
    → IfErr result (λ fault. fault ≡ Memory) → Performs tools (state_of manager) tree (Says (plainly result)) (state_of new)
changed_turn manager stack tree proof there (Ok printed) new may changed here shown same is_undone memory =
    shows_after (state_of manager) (state_of new) (with_proof (state_of manager) proof) tree proof printed
    (ap state_of same ∙ stack_state manager stack (Some proof) (ap (λ (s : Stack). s.proof) changed)) may refl
    (subst (λ (m : Manager). ShowsGoals (state_of m) printed) (sym same) shown)
changed_turn manager stack tree proof there (Err fault) new may changed here shown same is_undone memory =
    refuses (state_of manager) (state_of new) tree fault
    (λ i. record {
      library = sessions.state_of (is_undone.prover i).session;
      lemmas = lemmas_of (is_undone.prover i).session;
      proof = undone_same (stack_of manager.stack) (stack_of stack) (stack_of new.stack) proof there changed is_undone.stack here i;
    }) (inl memory)

-- ---- sessions that go on

kept_named : (old new : Option Theorem) → ((theorem : Theorem) → old ≡ Some theorem → new ≡ Some theorem) → AnswersAsStrong (option_map sequent_of_theorem new) (option_map sequent_of_theorem old)
kept_named None new stays = tt
kept_named (Some theorem) new stays = (let same : new ≡ Some theorem = stays theorem refl in rw same (IsAsStrong-self (sequent_of_theorem theorem)))

self : (found : Option Sequent) → AnswersAsStrong found found
self None = tt
self (Some sequent) = IsAsStrong-self sequent

abbrev store_with : Library → List Theorem → Store
store_with library lemmas = record { named = library.theorems; lemmas = lemmas }

later_store : (old new : Library) (lemmas now : List Theorem) → IsTold old → IsLaterLibrary old new → now ≡ lemmas
    → IsLaterStore (sequents_in (store_with old lemmas)) (sequents_in (store_with new now))
later_store old new lemmas now told later same = record {
  named = λ name. kept_named (old.theorems name) (new.theorems name) (λ theorem is. later.stays told name theorem is);
  lemmas = λ k. subst (λ (l : List Theorem). AnswersAsStrong (slice_get (map sequent_of_theorem l) k) (slice_get (map sequent_of_theorem lemmas) k)) (sym same)
      (self (slice_get (map sequent_of_theorem lemmas) k));
}

-- the manager with another session
abbrev pub with_session : Manager → Session → Manager
with_session manager session = record manager { prover = record manager.prover { session = session } }

pub session_manager : (manager : Manager) (session : Session) → IsManager manager → IsSession session → lemmas_of session ≡ lemmas_of manager.prover.session
    → sessions.StaysMade manager.prover.session session → IsLaterLibrary (sessions.state_of manager.prover.session) (sessions.state_of session) → IsManager (with_session manager session)
session_manager manager session is known lemmas stays later =
    let old = sessions.state_of manager.prover.session in
    let new = sessions.state_of session in
    let before = lemmas_of manager.prover.session in
    let after = lemmas_of session in
    let valid : (found : Option Proof) → IsValidIfAny old.theory (store_with old before) found → IsValidIfAny new.theory (store_with new after) found =
    λ found good. if_any-stays old.theory new.theory (store_with old before) (store_with new after) later.earlier known.legal (later_store old new before after is.told later lemmas) found good in
    record {
      session = known;
      stack = record { proof = valid (stack_of manager.stack).proof is.stack.proof; before = valid (stack_of manager.stack).before is.stack.before };
      made = kept_stay_made (journal_in manager) session.library.recorder manager.stack stays is.made;
      told = later.told is.told;
    }

-- ---- save

pub unsaved_name : {tools : Tools} (manager : Manager) (name : List ℕ) (fault : Fault)
    → TestsName {A = Unit {0}} (sessions.state_of manager.prover.session) name (Err fault) → Performs tools (state_of manager) (save_command name) (Says (plainly (Err fault))) (state_of manager)
unsaved_name {tools} manager name fault (inl bad) =
    refuses (state_of manager) (state_of manager) (save_command name) fault refl
    (inr (subst (λ (f : Fault). May tools (state_of manager) (save_command name) (Err (refusal_of f))) (sym bad.0) (save_misnamed tools (state_of manager) name bad.1)))
unsaved_name {tools} manager name fault (inr taken) =
    refuses (state_of manager) (state_of manager) (save_command name) fault refl
    (inr (subst (λ (f : Fault). May tools (state_of manager) (save_command name) (Err (refusal_of f))) (sym taken.0) (save_taken tools (state_of manager) name taken.1 taken.2)))

pub unsaved : {tools : Tools} (manager : Manager) (name : List ℕ) (fault : Fault) → IsNewName (sessions.state_of manager.prover.session) name
    → Err fault ≡ top_outcome (state_of manager).proof → Performs tools (state_of manager) (save_command name) (Says (plainly (Err fault))) (state_of manager)
unsaved {tools} manager name fault free told =
    refuses (state_of manager) (state_of manager) (save_command name) fault refl
    (inr (save_refused tools (state_of manager) name fault free.named (ap is_some free.none) (sym told)))

saved_turn : {tools : Tools} (manager : Manager) (session : Session) (name : List ℕ) (theorem : Theorem) (printed : Printed)
    → IsNewName (sessions.state_of manager.prover.session) name → Ok theorem ≡ top_outcome (state_of manager).proof → Stores manager.prover.session session name theorem printed
    → lemmas_of session ≡ lemmas_of manager.prover.session → Performs tools (state_of manager) (save_command name) (Says (plainly (Ok printed))) (state_of (with_session manager session))
saved_turn {tools} manager session name theorem printed free told stored lemmas =
    let state = state_of manager in
    let made : State = with_library state (with_theorem state.library name theorem) in
    let new : State = state_of (with_session manager session) in
    let same : new ≡ made = λ i. record { library = stored.state i; lemmas = lemmas i; proof = state.proof } in
    let proved_here : IsProved new theorem = stored.proved (record { lemmas = lemmas_of session; proof = state.proof }) in
    subst (λ (s : State). Performs tools state (save_command name) (Says (plainly (Ok printed))) s) (sym same)
    (theorem_turn state made name (save_command name) theorem (save_done tools state name theorem free.named (ap is_some free.none) (sym told))
    (subst (λ (s : State). IsProved s theorem) same proved_here)
    (subst (λ (s : State). Says (plainly (Ok printed)) (scope_in s) (Ok (theorem_line name theorem))) same
    (record { spelled = stored.spelled ∙ sym (append-nil (text_of_theorem (scope_in new) (record { name = name; theorem = theorem }))); named = stored.named })))

-- nothing is kept
kept_turn : {tools : Tools} (manager : Manager) (session : Session) (name : List ℕ) (fault : Fault) → fault ≡ Memory
    → sessions.state_of session ≡ sessions.state_of manager.prover.session → lemmas_of session ≡ lemmas_of manager.prover.session
    → Performs tools (state_of manager) (save_command name) (Says (plainly (Err fault))) (state_of (with_session manager session))
kept_turn manager session name fault memory library lemmas =
    refuses (state_of manager) (state_of (with_session manager session)) (save_command name) fault
    (λ i. record { library = library i; lemmas = lemmas i; proof = (state_of manager).proof }) (inl memory)

-- the theorem is kept, or there is no memory
pub kept_or_saved : {tools : Tools} (manager : Manager) (session : Session) (name : List ℕ) (theorem : Theorem) (result : Result Printed Fault)
    → IsNewName (sessions.state_of manager.prover.session) name → Ok theorem ≡ top_outcome (state_of manager).proof → IfOk result (Stores manager.prover.session session name theorem)
    → OnErr result (sessions.state_of session ≡ sessions.state_of manager.prover.session) → IfErr result (λ fault. fault ≡ Memory) → lemmas_of session ≡ lemmas_of manager.prover.session
    → Performs tools (state_of manager) (save_command name) (Says (plainly result)) (state_of (with_session manager session))
kept_or_saved manager session name theorem (Ok printed) free told stored same memory lemmas = saved_turn manager session name theorem printed free told stored lemmas
kept_or_saved manager session name theorem (Err fault) free told stored same memory lemmas = kept_turn manager session name fault memory same lemmas

-- what the session does the manager does
pub session_turn : {tools : Tools} (manager : Manager) (session : Session) (tree : CommandTree) (Told : Scope → Reply → Type 0)
    → ((beside : Beside) → beside.lemmas ≡ lemmas_of manager.prover.session
    → Performs tools (with_beside beside (sessions.state_of manager.prover.session)) tree Told (with_beside beside (sessions.state_of session)))
    → lemmas_of session ≡ lemmas_of manager.prover.session → Performs tools (state_of manager) tree Told (state_of (with_session manager session))
session_turn {tools} manager session tree Told performs lemmas =
    subst (λ (l : List Theorem). Performs tools (state_of manager) tree Told (record { library = sessions.state_of session; lemmas = l; proof = (stack_of manager.stack).proof })) (sym lemmas)
    (performs (record { lemmas = lemmas_of manager.prover.session; proof = (stack_of manager.stack).proof }) refl)
