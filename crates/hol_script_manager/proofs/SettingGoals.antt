-- A goal is set: the manager that it leaves, and what the command does.
use Rattle.std.proofs.Common.{◌≡◌, inl, inr, ⊎_elim, List, [], ◌∷◌, map, refl, sym, ap, subst, ◌∙◌, true, None, Result, Ok, Err}
use Rattle.hol_model.specs.declared.fault.Fault.{Fault}
use Rattle.hol_model.specs.declared.fault.Fault.TheVariants.{Memory, NotBool, TooLarge}
use Rattle.hol_model.specs.Terms.NamedTerm.{NamedTerm, equation, is_within_limits}
use Rattle.hol_model.specs.Terms.WellNamed.{is_well_named}
use Rattle.hol_model.specs.Logic.Theory.{Theory}
use Rattle.hol_model.specs.Logic.Derivable.{IsMember}
use Rattle.hol_model.specs.Kernel.Outcome.{Answers, unless, refused}
use Rattle.hol_model.specs.Kernel.Rules.{first_unknown, is_formula}
use Rattle.hol_model.specs.Texts.TermGrammar.{TermTree}
use Rattle.hol_model.specs.Texts.Reading.{Scope, meaning}
use Rattle.hol_model.specs.Goals.GoalStates.{Proof, begun, goal_of, open_goals, set_outcome, set_stack}
use Rattle.hol_model.specs.Goals.GoalLaws.{IsValidProof, IsValidStack}
use Rattle.hol_model.specs.Goals.StackCalls.{Changes}
use Rattle.hol_model_sessions.specs.CommandGrammar.{goal_command}
use Rattle.hol_model_sessions.specs.Sessions.{definition_name}
use Rattle.hol_model_sessions.specs.Replies.{text_of_goals}
use Rattle.hol_model_sessions.specs.ScriptSessions.{State, scope_in, with_goal, AreShown}
use Rattle.hol_laws_goals.proofs.Passing.{passed, not_refused}
use Rattle.hol_laws_goals.proofs.ValidProofs.{set-valid}
use Rattle.hol_journal.specs.Journal.{Recorded}
use Rattle.hol_syntax.specs.Scope.{scope_of}
use Rattle.hol_theorem_store.specs.declared.store.Store as stores
use Rattle.hol_theorem_store.specs.Stored.{IsStoreOf, KeepsTheorems, theorems_in}
use Rattle.hol_theorem_store.specs.Store.{stored_of}
use Rattle.hol_goals.specs.Stages.{stack_of}
use Rattle.hol_goals.specs.Made.{KeepsMade}
use Rattle.hol_goals.specs.declared.stack.Stack as stacks
use Rattle.hol_script_inference.specs.Sessions.{Printed, theorem_of, Performs, no_tools, Says, plainly, printed_text, printed_name}
use Rattle.hol_script_manager.specs.declared.manager.Manager.{Manager}
use Rattle.hol_script_manager.specs.Managers.{state_of, IsManager}
use Rattle.hol_script_manager.proofs.Shown.{goal_shown}
use Rattle.hol_script_manager.proofs.GoalTurns.{goal_unread, goal_unset, goal_set}
use Rattle.hol_script_manager.proofs.Managing.{theory_in, journal_in, scope_known, with_stack, stack_state, refuses, shows_turn}

-- what is set is the proof to which nothing was done
set_begun : (theory : Theory) (term : NamedTerm) (proof : Proof) → set_outcome theory term ≡ Ok proof → proof ≡ begun (goal_of term)
set_begun theory term proof same =
    let formula = passed (is_formula term) NotBool (refused (first_unknown theory term) (unless (is_within_limits (equation term term)) TooLarge (Ok (begun (goal_of term))))) proof same in
    let known = not_refused (first_unknown theory term) (unless (is_within_limits (equation term term)) TooLarge (Ok (begun (goal_of term)))) proof formula.1 in
    let fits = passed (is_within_limits (equation term term)) TooLarge (Ok (begun (goal_of term))) proof known.1 in
    let whole : Ok (begun (goal_of term)) ≡ Ok proof = fits.1 in
    cc

-- ---- refusals

module _ (manager : Manager) (is : IsManager manager) (tree : TermTree) where
  read_here : (answer : Result NamedTerm Fault) → Answers answer (meaning (scope_of manager.prover.session.scope) [] tree) → Answers answer (meaning (scope_in (state_of manager)) [] tree)
  read_here answer answers = subst (λ (s : Scope). Answers answer (meaning s [] tree)) (scope_known manager is) answers

  -- the term is refused
  pub unread : (fault : Fault) → Answers {A = NamedTerm} (Err fault) (meaning (scope_of manager.prover.session.scope) [] tree)
      → Performs no_tools (state_of manager) (goal_command tree) (Says (plainly (Err fault))) (state_of manager)
  unread fault answers =
      refuses (state_of manager) (state_of manager) (goal_command tree) fault refl
      (⊎_elim (λ memory. inl memory) (λ refused. inr (goal_unread no_tools (state_of manager) tree fault refused)) (read_here (Err fault) answers))

  -- there is no memory
  pub forgotten : (fault : Fault) → fault ≡ Memory → Performs no_tools (state_of manager) (goal_command tree) (Says (plainly (Err fault))) (state_of manager)
  forgotten fault memory = refuses (state_of manager) (state_of manager) (goal_command tree) fault refl (inl memory)

  -- it is no goal
  pub unset : (term : NamedTerm) (fault : Fault) (stack : stacks.Stack) → Answers {A = NamedTerm} (Ok term) (meaning (scope_of manager.prover.session.scope) [] tree)
      → Changes (Err fault) (set_outcome (theory_in manager) term) (set_stack (stack_of manager.stack)) (stack_of manager.stack) (stack_of stack)
      → Performs no_tools (state_of manager) (goal_command tree) (Says (plainly (Err fault))) (state_of (with_stack manager stack))
  unset term fault stack answers changes =
      refuses (state_of manager) (state_of (with_stack manager stack)) (goal_command tree) fault
      (stack_state manager stack (stack_of manager.stack).proof (ap (λ s. s.proof) changes.1))
      (⊎_elim (λ memory. inl memory) (λ refused. inr (goal_unset no_tools (state_of manager) tree term fault (read_here (Ok term) answers) refused)) changes.0)

  -- it is shown
  pub set_turn : (new : State) (term : NamedTerm) (proof : Proof) (printed : Printed) → new ≡ with_goal (state_of manager) proof
      → Answers {A = NamedTerm} (Ok term) (meaning (scope_of manager.prover.session.scope) [] tree) → set_outcome (theory_in manager) term ≡ Ok proof → is_within_limits term ≡ true
      → is_well_named term ≡ true
      → printed_text printed ≡ text_of_goals (scope_of manager.prover.session.scope) (goal_of term ∷ []) → printed_name printed ≡ None
      → Performs no_tools (state_of manager) (goal_command tree) (Says (plainly (Ok printed))) new
  set_turn new term proof printed same answers sets within named spelled_goal unnamed =
      let state = state_of manager in
      let one : proof ≡ begun (goal_of term) = set_begun (theory_in manager) term proof sets in
      let valid : IsValidProof (theory_in manager) (record { named = λ name. None; lemmas = [] }) (begun (goal_of term)) =
      subst (IsValidProof (theory_in manager) (record { named = λ name. None; lemmas = [] })) one (set-valid (theory_in manager) (record { named = λ name. None; lemmas = [] }) term proof sets) in
      let shown : AreShown (with_goal state proof) (open_goals proof.stage) =
      subst (λ (p : Proof). AreShown (with_goal state proof) (open_goals p.stage)) (sym one) (goal_shown (with_goal state proof) term valid.stage.known.0.target within named) in
      subst (λ (s : State). Performs no_tools state (goal_command tree) (Says (plainly (Ok printed))) s) (sym same)
      (shows_turn state (with_goal state proof) (goal_command tree) proof printed (goal_set no_tools state tree term proof (read_here (Ok term) answers) sets) refl
      (record {
        spelled =
            spelled_goal ∙ ap (λ (s : Scope). text_of_goals s (goal_of term ∷ [])) (scope_known manager is)
            ∙ ap (λ (p : Proof). text_of_goals (scope_in state) (open_goals p.stage)) (sym one);
        unnamed = unnamed;
        shown = λ other here.
            (let again : proof ≡ other = cc in subst (λ (p : Proof). AreShown (with_goal state proof) (open_goals p.stage)) again shown);
      }))

-- ---- the manager with a goal just set

abbrev pub with_new : Manager → stores.Store → stacks.Stack → Manager
with_new manager store stack = record manager {
  prover = record manager.prover { session = record manager.prover.session { library = record manager.prover.session.library { store = store } } };
  stack = stack;
}

module _ (manager : Manager) (store : stores.Store) (stack : stacks.Stack) (proof : Proof) (keeps : KeepsTheorems (stored_of manager.prover.session.library.store) (stored_of store))
    (cleared : (stored_of store).lemmas ≡ []) (sets : stack_of stack ≡ set_stack (stack_of manager.stack) proof) where
  pub new_state : state_of (with_new manager store stack) ≡ with_goal (state_of manager) proof
  new_state = λ i. record {
    library = record {
      theory = theory_in manager;
      variables = (scope_of manager.prover.session.scope).variable_type;
      theorems = λ name. theorem_of (keeps name i);
    };
    lemmas = map (λ (made : Recorded). made.theorem) (cleared i);
    proof = (sets i).proof;
  }

  pub new_manager : (term : NamedTerm) → IsManager manager → set_outcome (theory_in manager) term ≡ Ok proof → IsStoreOf (journal_in manager) (stored_of store) → KeepsMade (journal_in manager) stack
      → IsManager (with_new manager store stack)
  new_manager term is outcome stored made = record {
    session = record {
      legal = is.session.legal;
      scope = is.session.scope;
      library = record { has_logic = is.session.library.has_logic; has_laws = is.session.library.has_laws; stored = stored };
      proved = record {
        named = λ name theorem there. is.session.proved.named name theorem (ap theorem_of (sym (keeps name)) ∙ there);
        lemmas = λ theorem member. absurd (subst (λ (l : List Recorded). IsMember theorem (map (λ (m : Recorded). m.theorem) l)) cleared member);
      };
    };
    stack = subst (IsValidStack (theory_in manager) (theorems_in (stored_of store))) (sym sets)
        (record { proof = set-valid (theory_in manager) (theorems_in (stored_of store)) term proof outcome; before = tt });
    made = made;
    told = record { told = λ name theorem there. is.told.told name theorem (ap theorem_of (sym (keeps (definition_name name))) ∙ there) };
  }
