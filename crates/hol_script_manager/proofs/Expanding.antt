-- The first open goal is refined: the manager that it leaves, and what the command does.
use Rattle.std.proofs.Common.{◌≡◌, ◌⊎◌, inl, inr, ⊎_elim, ℕ, [], ◌++◌, length, map, take, refl, sym, ap, subst, ◌∙◌, Option, Some, Result, Ok, Err}
use Rattle.std.proofs.lemmas.List.{take-map, length-map}
use Rattle.std.proofs.Math.Seq.{take-append_seam}
use Rattle.hol_model.specs.declared.fault.Fault.{Fault}
use Rattle.hol_model.specs.declared.fault.Fault.TheVariants.{Memory}
use Rattle.hol_model.specs.Logic.Theory.{Theory, IsLegal}
use Rattle.hol_model.specs.Kernel.Answers.{goes_on, stops}
use Rattle.hol_model.specs.Kernel.Theorem.{Theorem}
use Rattle.hol_model.specs.Texts.TermGrammar.{TermTree}
use Rattle.hol_model.specs.Texts.Reading.{Scope, meaning}
use Rattle.hol_model.specs.Goals.Replays.{IsStoreOver}
use Rattle.hol_model.specs.Goals.GoalStates.{Proof, Stack, Expansion, changed_stack}
use Rattle.hol_model.specs.Goals.GoalLaws.{IsValidStack}
use Rattle.hol_model.specs.Goals.StackCalls.{Told, Expands}
use Rattle.hol_model.specs.Refining.HostFunctions.{Host}
use Rattle.hol_model.specs.Refining.Combinators as combinators
use Rattle.hol_model.specs.Refining.Combinators.{at, IsLater}
use Rattle.hol_model.specs.Refining.RefinerConditions.{HasLogic, HasKnownWitnesses}
use Rattle.hol_model_sessions.specs.CommandGrammar.{e_command}
use Rattle.hol_model_sessions.specs.TacticGrammar.{Tactic, read_tactic}
use Rattle.hol_model_sessions.specs.Sessions.{State as Library}
use Rattle.hol_model_sessions.specs.ScriptSessions.{State, Tools, scope_in, store_in, with_proof, with_lemmas}
use Rattle.hol_model_sessions.specs.SessionTools.{tools, IsStackExpansion}
use Rattle.hol_laws_sessions.specs.ReadTerms.{IsScopeOver}
use Rattle.hol_laws_sessions.specs.ValidSessions.{IsTold}
use Rattle.hol_laws_sessions.proofs.KnownReadings.{read_terms-known}
use Rattle.hol_laws_sessions.proofs.ToolsValid.{tactic-known}
use Rattle.hol_laws_refiners.proofs.GoodSteps.{store-later}
use Rattle.hol_laws_goals.proofs.ValidProofs.{focus-is}
use Rattle.hol_journal.specs.Journal.{Journal, Recorded}
use Rattle.hol_tactic_exprs.specs.Expressions.{tactic_of}
use Rattle.hol_tactic_exprs.specs.declared.tac.Tac.{Tac}
use Rattle.hol_model.specs.Terms.NamedTerm.{NamedTerm}
use Rattle.hol_prelude.specs.HasLogic as prelude
use Rattle.hol_taut_laws.specs.HasLaws.{HasLaws}
use Rattle.hol_taut_laws.proofs.LawLemmas.{stands-on-logic}
use Rattle.hol_theorem_library.specs.Library.{IsLibrary}
use Rattle.hol_goals.specs.Stages.{stack_of}
use Rattle.hol_goals.specs.Made.{KeepsMade}
use Rattle.hol_theorem_store.specs.Stored.{IsStoreOf, theorems_in}
use Rattle.hol_theorem_store.specs.Store.{stored_of}
use Rattle.hol_syntax.specs.declared.scope.Scope.{Scope as ScopeHere}
use Rattle.hol_syntax.specs.Scope.{scope_of}
use Rattle.hol_goals.specs.declared.stack.Stack as stacks
use Rattle.hol_tactic_grammar.specs.Reading.{IsTreeRead, AnswersTree}
use Rattle.hol_script_inference.specs.Sessions.{Printed, theorem_of, lemmas_of, IsSession, Performs, Says, plainly}
use Rattle.hol_script_inference.specs.Sessions as sessions
use Rattle.hol_script_manager.specs.declared.manager.Manager.{Manager}
use Rattle.hol_script_manager.specs.declared.prover.Prover.{Prover}
use Rattle.hol_script_manager.specs.Provers.{IsFurther}
use Rattle.hol_script_manager.specs.Managers.{state_of, IsManager, ShowsGoals, IsUndone, Forgets}
use Rattle.hol_script_manager.proofs.GoalTurns.{e_unread, e_refused, e_done}
use Rattle.hol_script_manager.proofs.Managing.{theory_in, journal_in, scope_known, refuses, shows_after, undone_over, undone_same}

-- the logical constants are defined in the theory
pub logic_there : (manager : Manager) → IsManager manager → HasLogic (theory_in manager)
logic_there manager is = record {
  legal = is.session.legal;
  logic = stands-on-logic (journal_in manager) manager.prover.session.library.laws is.session.library.has_laws;
}

-- the witnesses of what was read are known
pub witnesses : (manager : Manager) → IsManager manager → (tree : Tactic TermTree) (tac : Tac NamedTerm) → IsTreeRead (scope_of manager.prover.session.scope) tree tac
    → HasKnownWitnesses (theory_in manager) (tactic_of tac)
witnesses manager is tree tac read =
    subst (HasKnownWitnesses (theory_in manager)) (sym read.means)
    (tactic-known (theory_in manager) (meaning (scope_of manager.prover.session.scope) [])
    (λ term_tree term there. read_terms-known (theory_in manager) (scope_of manager.prover.session.scope) is.session.legal is.session.scope term_tree term there) tree read.tactic read.meant)

-- an expansion works at a goal
pub there_is : (theory : Theory) (host : Host) (before : combinators.Stage) (tactic : combinators.Tactic) (found : Option Proof) (expansion : Expansion)
    → IsStackExpansion theory host before tactic found (Ok expansion) → (there : Proof) × (found ≡ Some there)
there_is theory host before tactic found expansion (stops fault is same) = cc
there_is theory host before tactic found expansion (goes_on focus is_focus more) = (focus.proof, (focus-is found focus (sym is_focus)).is_found)

-- ---- the manager whose library went on while the goal was refined

-- the library went on from here: lemmas may have come, and steps were spent
pub record WentOn (old : Manager) (prover : Prover) (steps after : ℕ) : Type 0 where
  pub further : IsFurther old.prover prover
  pub ready : IsLibrary prover.session.library
  pub later : IsLater (theory_in old) (at (store_in (state_of old)) steps) (at (theorems_in (stored_of prover.session.library.store)) after)

module _ {steps after : ℕ} (old mid : Manager) (is : IsManager old) (on : WentOn old mid.prover steps after) where
  on_library : sessions.state_of mid.prover.session ≡ (state_of old).library
  on_library = λ i. record {
    theory = on.further.extended.theory i;
    variables = (scope_of (on.further.scope i)).variable_type;
    theorems = λ name. theorem_of (on.further.extended.names name i);
  }

  on_session : IsSession mid.prover.session
  on_session = record {
    legal = subst IsLegal (sym on.further.extended.theory) is.session.legal;
    scope = subst (λ (t : Theory). IsScopeOver t (scope_of mid.prover.session.scope)) (sym on.further.extended.theory)
        (subst (λ (s : ScopeHere). IsScopeOver (theory_in old) (scope_of s)) (sym on.further.scope) is.session.scope);
    library = on.ready;
    proved = subst (λ (t : Theory). IsStoreOver t (store_in (state_of mid))) (sym on.further.extended.theory)
        (store-later (theory_in old) (at (store_in (state_of old)) steps) (at (store_in (state_of mid)) after) on.later is.session.proved);
  }

  pub on_manager : IsValidStack (theory_in old) (store_in (state_of mid)) (stack_of mid.stack) → KeepsMade (journal_in mid) mid.stack → IsManager mid
  on_manager valid made = record {
    session = on_session;
    stack = subst (λ (t : Theory). IsValidStack t (store_in (state_of mid)) (stack_of mid.stack)) (sym on.further.extended.theory) valid;
    made = made;
    told = subst IsTold (sym on_library) is.told;
  }

  on_state : (proof : Proof) → stack_of mid.stack ≡ changed_stack (stack_of old.stack) proof → state_of mid ≡ with_proof (with_lemmas (state_of old) (lemmas_of mid.prover.session)) proof
  on_state proof changed = λ i. record { library = on_library i; lemmas = lemmas_of mid.prover.session; proof = (changed i).proof }

  -- what came is forgotten
  module _ (new : Manager) (count : ℕ) (forgets : Forgets mid new count) (counted : count ≡ length (stored_of old.prover.session.library.store).lemmas)
      (same : (stack_of mid.stack).proof ≡ (stack_of old.stack).proof) where
    back_library : sessions.state_of new.prover.session ≡ (state_of old).library
    back_library = λ i. record {
      theory = (ap (λ (j : Journal). j.theory) forgets.recorder ∙ on.further.extended.theory) i;
      variables = (ap (λ (s : ScopeHere). (scope_of s).variable_type) forgets.scope ∙ ap (λ (s : ScopeHere). (scope_of s).variable_type) on.further.scope) i;
      theorems = λ name. theorem_of ((forgets.theorems name ∙ on.further.extended.names name) i);
    }

    back_lemmas : lemmas_of new.prover.session ≡ lemmas_of old.prover.session
    back_lemmas =
        let theorem : Recorded → Theorem = λ made. made.theorem in
        ap (map theorem) forgets.lemmas
        ∙ sym (take-map theorem count (stored_of mid.prover.session.library.store).lemmas)
        ∙ ap (take count) on.later.lemmas
        ∙ ap (λ (n : ℕ). take n (lemmas_of old.prover.session ++ on.later.added)) (counted ∙ sym (length-map (stored_of old.prover.session.library.store).lemmas theorem))
        ∙ take-append_seam (lemmas_of old.prover.session) on.later.added

    back_state : state_of new ≡ state_of old
    back_state = λ i. record { library = back_library i; lemmas = back_lemmas i; proof = (ap (λ (s : stacks.Stack). (stack_of s).proof) forgets.stack ∙ same) i }

    back_manager : IsValidStack (theory_in old) (store_in (state_of old)) (stack_of mid.stack) → KeepsMade (journal_in mid) mid.stack → IsManager new
    back_manager valid made = record {
      session = record {
        legal = subst (λ (l : Library). IsLegal l.theory) (sym back_library) is.session.legal;
        scope = subst (λ (j : Journal). IsScopeOver j.theory (scope_of new.prover.session.scope)) (sym forgets.recorder)
            (subst (λ (s : ScopeHere). IsScopeOver (theory_in mid) (scope_of s)) (sym forgets.scope) on_session.scope);
        library = record {
          has_logic = subst (prelude.HasLogic (journal_in new)) (sym forgets.logic)
              (subst (λ (j : Journal). prelude.HasLogic j mid.prover.session.library.logic) (sym forgets.recorder) on.ready.has_logic);
          has_laws = subst (HasLaws (journal_in new)) (sym forgets.laws)
              (subst (λ (j : Journal). HasLaws j mid.prover.session.library.laws) (sym forgets.recorder) on.ready.has_laws);
          stored = forgets.stored (journal_in new)
              (subst (λ (j : Journal). IsStoreOf j (stored_of mid.prover.session.library.store)) (sym forgets.recorder) on.ready.stored);
        };
        proved = subst (λ (s : State). IsStoreOver s.library.theory (store_in s)) (sym back_state) is.session.proved;
      };
      stack = subst (λ (s : stacks.Stack). IsValidStack (theory_in new) (store_in (state_of new)) (stack_of s)) (sym forgets.stack)
          (subst (λ (s : State). IsValidStack s.library.theory (store_in s) (stack_of mid.stack)) (sym back_state) valid);
      made = subst (KeepsMade (journal_in new)) (sym forgets.stack)
          (subst (λ (j : Journal). KeepsMade j mid.stack) (sym forgets.recorder) made);
      told = subst IsTold (sym back_library) is.told;
    }

-- ---- the command

module _ (host : Host) (steps : ℕ) (old : Manager) (is : IsManager old) (tree : Tactic TermTree) where
  -- a quoted term is refused
  pub e_unread_turn : (fault : Fault) → AnswersTree (scope_of old.prover.session.scope) tree (Err fault)
      → Performs (tools host steps) (state_of old) (e_command tree) (Says (plainly (Err fault))) (state_of old)
  e_unread_turn fault answers =
      refuses (state_of old) (state_of old) (e_command tree) fault refl
      (⊎_elim (λ memory. inl memory) (λ refused. inr (e_unread host steps (state_of old) tree fault refused))
      (subst (λ (s : Scope). AnswersTree s tree (Err fault)) (scope_known old is) answers))

  module _ (tac : Tac NamedTerm) (read : IsTreeRead (scope_of old.prover.session.scope) tree tac) where
    meant_here : read_tactic (meaning (scope_in (state_of old)) []) tree ≡ Ok read.tactic
    meant_here = subst (λ (s : Scope). read_tactic (meaning s []) tree ≡ Ok read.tactic) (scope_known old is) read.meant

    -- it is not refined
    e_refused_turn : (fault : Fault) (new : State) → new ≡ state_of old
        → (fault ≡ Memory) ⊎ IsStackExpansion (theory_in old) host (at (store_in (state_of old)) steps) (tactic_of tac) (stack_of old.stack).proof (Err fault)
        → Performs (tools host steps) (state_of old) (e_command tree) (Says (plainly (Err fault))) new
    e_refused_turn fault new same why =
        refuses (state_of old) new (e_command tree) fault same
        (⊎_elim (λ memory. inl memory) (λ may. inr (e_refused host steps (state_of old) tree read.tactic (tactic_of tac) meant_here read.means fault may)) why)

    -- it is
    e_done_turn : (expansion : Expansion) (new : State) (printed : Printed) → new ≡ with_proof (with_lemmas (state_of old) expansion.lemmas) expansion.proof
        → IsStackExpansion (theory_in old) host (at (store_in (state_of old)) steps) (tactic_of tac) (stack_of old.stack).proof (Ok expansion) → ShowsGoals new printed
        → Performs (tools host steps) (state_of old) (e_command tree) (Says (plainly (Ok printed))) new
    e_done_turn expansion new printed same may shown =
        shows_after (state_of old) new (with_proof (with_lemmas (state_of old) expansion.lemmas) expansion.proof) (e_command tree) expansion.proof printed same
        (e_done host steps (state_of old) tree read.tactic (tactic_of tac) meant_here read.means expansion may) refl shown

-- ---- the whole call

-- what may come of it
abbrev MayBe : Host → Manager → ℕ → Tac NamedTerm → Result Expansion Fault → Type 0
MayBe host old steps tac = IsStackExpansion (theory_in old) host (at (store_in (state_of old)) steps) (tactic_of tac) (stack_of old.stack).proof

module _ {steps after : ℕ} (old mid : Manager) (is : IsManager old) (on : WentOn old mid.prover steps after) where
  -- it is not refined, and what came is forgotten
  module _ (new : Manager) (count : ℕ) (forgets : Forgets mid new count) (counted : count ≡ length (stored_of old.prover.session.library.store).lemmas)
      (unchanged : stack_of mid.stack ≡ stack_of old.stack) where
    pub e_unrefined_turn : (host : Host) (limit : ℕ) → steps ≡ limit → (tree : Tactic TermTree) → (tac : Tac NamedTerm)
        → IsTreeRead (scope_of old.prover.session.scope) tree tac → (fault : Fault) → (fault ≡ Memory) ⊎ MayBe host old steps tac (Err fault)
        → Performs (tools host limit) (state_of old) (e_command tree) (Says (plainly (Err fault))) (state_of new)
    e_unrefined_turn host limit same tree tac read fault why =
        subst (λ (n : ℕ). Performs (tools host n) (state_of old) (e_command tree) (Says (plainly (Err fault))) (state_of new)) same
        (e_refused_turn host steps old is tree tac read fault (state_of new)
        (back_state old mid is on new count forgets counted (ap (λ (s : Stack). s.proof) unchanged)) why)

    pub e_unrefined_manager : KeepsMade (journal_in mid) mid.stack → IsManager new
    e_unrefined_manager made =
        back_manager old mid is on new count forgets counted (ap (λ (s : Stack). s.proof) unchanged)
        (subst (IsValidStack (theory_in old) (store_in (state_of old))) (sym unchanged) is.stack) made

  -- it is refined
  module _ (host : Host) (tac : Tac NamedTerm) (told : Told) (expands : Expands (MayBe host old steps tac) (stack_of old.stack) (stack_of mid.stack) (lemmas_of mid.prover.session) after told) where
    abbrev expansion : Expansion
    expansion = record { proof = expands.proof; lemmas = lemmas_of mid.prover.session; left = after }

    -- and the goals are shown
    pub e_shown_turn : (limit : ℕ) → steps ≡ limit → (tree : Tactic TermTree)
        → IsTreeRead (scope_of old.prover.session.scope) tree tac → (new : Manager) → new ≡ mid → (printed : Printed) → ShowsGoals (state_of mid) printed
        → Performs (tools host limit) (state_of old) (e_command tree) (Says (plainly (Ok printed))) (state_of new)
    e_shown_turn limit same tree read new kept printed shown =
        subst (λ (m : Manager). Performs (tools host limit) (state_of old) (e_command tree) (Says (plainly (Ok printed))) (state_of m)) (sym kept)
        (subst (λ (n : ℕ). Performs (tools host n) (state_of old) (e_command tree) (Says (plainly (Ok printed))) (state_of mid)) same
        (e_done_turn host steps old is tree tac read expansion (state_of mid) printed (on_state old mid is on expands.proof expands.changed) expands.reached shown))

    -- or there is no memory for them: the change is undone, and what came is forgotten
    module _ (undone new : Manager) (undoes : IsUndone mid undone) (count : ℕ) (forgets : Forgets undone new count)
        (counted : count ≡ length (stored_of old.prover.session.library.store).lemmas) where
      there_was : (there : Proof) × ((stack_of old.stack).proof ≡ Some there)
      there_was = there_is (theory_in old) host (at (store_in (state_of old)) steps) (tactic_of tac) (stack_of old.stack).proof expansion expands.reached

      as_before : (stack_of undone.stack).proof ≡ (stack_of old.stack).proof
      as_before = undone_same (stack_of old.stack) (stack_of mid.stack) (stack_of undone.stack) expands.proof there_was.0 expands.changed undoes.stack there_was.1

      on_undone : WentOn old undone.prover steps after
      on_undone = subst (λ (p : Prover). WentOn old p steps after) (sym undoes.prover) on

      pub e_undone_turn : {any : Tools} (tree : Tactic TermTree) → (fault : Fault) → fault ≡ Memory
          → Performs any (state_of old) (e_command tree) (Says (plainly (Err fault))) (state_of new)
      e_undone_turn tree fault memory =
          refuses (state_of old) (state_of new) (e_command tree) fault (back_state old undone is on_undone new count forgets counted as_before) (inl memory)

      pub e_undone_manager : KeepsMade (journal_in mid) mid.stack → IsManager new
      e_undone_manager made =
          back_manager old undone is on_undone new count forgets counted as_before
          (undone_over (theory_in old) (store_in (state_of old)) (stack_of old.stack) (stack_of mid.stack) (stack_of undone.stack) expands.proof there_was.0
          expands.changed undoes.stack there_was.1 is.stack)
          (undoes.made (journal_in undone) (subst (λ (p : Prover). KeepsMade p.session.library.recorder mid.stack) (sym undoes.prover) made))
