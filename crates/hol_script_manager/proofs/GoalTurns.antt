-- What the commands of goals do.
use Rattle.std.proofs.Common.{◌≡◌, ◌⊎◌, inl, inr, ℕ, List, [], true, false, refl, sym, ap, subst, ◌∙◌, Option, None, Some, Result, Ok, Err}
use Rattle.std.specs.Prelude.{is_some}
use Rattle.hol_model.specs.declared.fault.Fault.{Fault}
use Rattle.hol_model.specs.declared.fault.Fault.TheVariants.{Memory, BadName, NameTaken, NoGoal}
use Rattle.hol_model.specs.Terms.NamedTerm.{NamedTerm}
use Rattle.hol_model.specs.Kernel.Answers.{goes_on, stops}
use Rattle.hol_model.specs.Kernel.Outcome.{given}
use Rattle.hol_model.specs.Kernel.Theorem.{Theorem}
use Rattle.hol_model.specs.Texts.TermGrammar.{TermTree}
use Rattle.hol_model.specs.Texts.Lexing.{numeral_value}
use Rattle.hol_model.specs.Texts.Reading.{Scope, meaning, ◌>>=◌}
use Rattle.hol_model.specs.Goals.GoalStates.{Proof, Expansion, open_goals, set_outcome, back_outcome, rotate_outcome, top_outcome}
use Rattle.hol_model.specs.Refining.HostFunctions.{Host}
use Rattle.hol_model.specs.Refining.Combinators as combinators
use Rattle.hol_model.specs.Refining.Combinators.{at}
use Rattle.hol_model_sessions.specs.TacticGrammar.{Tactic, read_tactic}
use Rattle.hol_model_sessions.specs.CommandGrammar.{CommandTree, goal_command, e_command, b_command, p_command, r_command, save_command}
use Rattle.hol_model_sessions.specs.Sessions.{is_theorem_name}
use Rattle.hol_model_sessions.specs.Replies.{goal_lines, theorem_line, refusal_of, Reply}
use Rattle.hol_model_sessions.specs.ScriptSessions.{State, scope_in, store_in, with_goal, with_lemmas, Tools, Accepted, says_goals, stores, May}
use Rattle.hol_model_sessions.specs.ScriptSessions.{AreShown, IsProved}
use Rattle.hol_model_sessions.specs.SessionTools.{tools, tactic_of, IsStackExpansion}
use Rattle.hol_script_inference.specs.Sessions.{Performs}

-- a refusal of a command, which leaves the state
pub refused_turn : {tools : Tools} {Says : Scope → Reply → Type 0} (state : State) (tree : CommandTree) (fault : Fault)
    → (fault ≡ Memory) ⊎ May tools state tree (Err (refusal_of fault)) → Says (scope_in state) (Err (refusal_of fault)) → Performs tools state tree Says state
refused_turn state tree fault (inl memory) says = record {
  outcome = Err (refusal_of fault);
  comes = inl (ap (λ (f : Fault). Err (refusal_of f)) memory);
  leaves = refl;
  says = says;
  is_true = record { theorem = tt; goals = tt; row = tt };
}
refused_turn state tree fault (inr may) says = record {
  outcome = Err (refusal_of fault);
  comes = inr may;
  leaves = refl;
  says = says;
  is_true = record { theorem = tt; goals = tt; row = tt };
}

-- a command that shows the goals of a proof
pub goals_turn : {tools : Tools} {Says : Scope → Reply → Type 0} (old new : State) (tree : CommandTree) (proof : Proof)
    → May tools old tree (Ok (record { message = goal_lines (open_goals proof.stage); after = new })) → AreShown new (open_goals proof.stage)
    → Says (scope_in new) (Ok (goal_lines (open_goals proof.stage))) → Performs tools old tree Says new
goals_turn old new tree proof may shown says = record {
  outcome = Ok (record { message = goal_lines (open_goals proof.stage); after = new });
  comes = inr may;
  leaves = refl;
  says = says;
  is_true = record { theorem = tt; goals = shown; row = tt };
}

-- a command that shows a theorem
pub theorem_turn : {tools : Tools} {Says : Scope → Reply → Type 0} (old new : State) (name : List ℕ) (tree : CommandTree) (theorem : Theorem)
    → May tools old tree (Ok (record { message = theorem_line name theorem; after = new })) → IsProved new theorem
    → Says (scope_in new) (Ok (theorem_line name theorem)) → Performs tools old tree Says new
theorem_turn old new name tree theorem may proved says = record {
  outcome = Ok (record { message = theorem_line name theorem; after = new });
  comes = inr may;
  leaves = refl;
  says = says;
  is_true = record { theorem = proved; goals = tt; row = tt };
}

-- ---- goal

module _ (tools : Tools) (state : State) (tree : TermTree) where
  abbrev with_set : Result NamedTerm Fault → Result Accepted Fault
  with_set read = (read >>= λ term. set_outcome state.library.theory term) >>= λ proof. Ok (record { message = goal_lines (open_goals proof.stage); after = with_goal state proof })

  abbrev with_answer : Result Proof Fault → Result Accepted Fault
  with_answer answer = answer >>= λ proof. Ok (record { message = goal_lines (open_goals proof.stage); after = with_goal state proof })

  pub goal_unread : (fault : Fault) → meaning (scope_in state) [] tree ≡ Err fault → May tools state (goal_command tree) (Err (refusal_of fault))
  goal_unread fault is = (sym (ap with_set is), refl)

  pub goal_unset : (term : NamedTerm) (fault : Fault) → meaning (scope_in state) [] tree ≡ Ok term → set_outcome state.library.theory term ≡ Err fault
      → May tools state (goal_command tree) (Err (refusal_of fault))
  goal_unset term fault is refuses = (sym (ap with_set is ∙ ap with_answer refuses), refl)

  pub goal_set : (term : NamedTerm) (proof : Proof) → meaning (scope_in state) [] tree ≡ Ok term → set_outcome state.library.theory term ≡ Ok proof
      → May tools state (goal_command tree) (Ok (record { message = goal_lines (open_goals proof.stage); after = with_goal state proof }))
  goal_set term proof is sets = sym (ap with_set is ∙ ap with_answer sets)

-- ---- b, p, r

abbrev shown_after : State → Result Proof Fault → Result Accepted Fault
shown_after state answer = answer >>= λ proof. Ok (says_goals state proof)

module _ (tools : Tools) (state : State) where
  pub b_done : (proof : Proof) → back_outcome state.proof ≡ Ok proof → May tools state b_command (Ok (says_goals state proof))
  b_done proof is = sym (ap (shown_after state) is)

  pub b_refused : (fault : Fault) → back_outcome state.proof ≡ Err fault → May tools state b_command (Err (refusal_of fault))
  b_refused fault is = (sym (ap (shown_after state) is), refl)

  pub r_done : (digits : List ℕ) (turns : ℕ) (proof : Proof) → numeral_value digits ≡ turns → rotate_outcome state.proof turns ≡ Ok proof
      → May tools state (r_command digits) (Ok (says_goals state proof))
  r_done digits turns proof value is = sym (ap (shown_after state) (ap (rotate_outcome state.proof) value ∙ is))

  pub r_refused : (digits : List ℕ) (turns : ℕ) (fault : Fault) → numeral_value digits ≡ turns → rotate_outcome state.proof turns ≡ Err fault
      → May tools state (r_command digits) (Err (refusal_of fault))
  r_refused digits turns fault value is = (sym (ap (shown_after state) (ap (rotate_outcome state.proof) value ∙ is)), refl)

  pub p_done : (proof : Proof) → state.proof ≡ Some proof → May tools state p_command (Ok (says_goals state proof))
  p_done proof is = sym (ap (λ (found : Option Proof). given found NoGoal (λ p. Ok (says_goals state p))) is)

  pub p_refused : state.proof ≡ None → May tools state p_command (Err (refusal_of NoGoal))
  p_refused is = (sym (ap (λ (found : Option Proof). given found NoGoal (λ p. Ok (says_goals state p))) is), refl)

  -- ---- save

  abbrev saved : List ℕ → Result Theorem Fault → Result Accepted Fault
  saved name answer = answer >>= λ theorem. Ok (stores state name theorem)

  pub save_misnamed : (name : List ℕ) → is_theorem_name name ≡ false → May tools state (save_command name) (Err (refusal_of BadName))
  save_misnamed name is = rw is refl

  pub save_taken : (name : List ℕ) → is_theorem_name name ≡ true → is_some (state.library.theorems name) ≡ true → May tools state (save_command name) (Err (refusal_of NameTaken))
  save_taken name named is = rw (named, is) refl

  pub save_refused : (name : List ℕ) (fault : Fault) → is_theorem_name name ≡ true → is_some (state.library.theorems name) ≡ false → top_outcome state.proof ≡ Err fault
      → May tools state (save_command name) (Err (refusal_of fault))
  save_refused name fault named none is = rw (named, none) (sym (ap (saved name) is), refl)

  pub save_done : (name : List ℕ) (theorem : Theorem) → is_theorem_name name ≡ true → is_some (state.library.theorems name) ≡ false → top_outcome state.proof ≡ Ok theorem
      → May tools state (save_command name) (Ok (stores state name theorem))
  save_done name theorem named none is = rw (named, none) (sym (ap (saved name) is))

-- ---- e

module _ (host : Host) (steps : ℕ) (state : State) (tree : Tactic TermTree) where
  pub e_unread : (fault : Fault) → read_tactic (meaning (scope_in state) []) tree ≡ Err fault → May (tools host steps) state (e_command tree) (Err (refusal_of fault))
  e_unread fault is = (stops fault (sym is) refl, refl)

  module _ (tactic : Tactic NamedTerm) (run : combinators.Tactic) (is_read : read_tactic (meaning (scope_in state) []) tree ≡ Ok tactic) (means : run ≡ tactic_of tactic) where
    abbrev Expansions : combinators.Tactic → Result Expansion Fault → Type 0
    Expansions t = IsStackExpansion state.library.theory host (at (store_in state) steps) t state.proof

    pub e_refused : (fault : Fault) → Expansions run (Err fault) → May (tools host steps) state (e_command tree) (Err (refusal_of fault))
    e_refused fault may = (goes_on tactic (sym is_read) (stops fault (subst (λ (t : combinators.Tactic). Expansions t (Err fault)) means may) refl), refl)

    pub e_done : (expansion : Expansion) → Expansions run (Ok expansion) → May (tools host steps) state (e_command tree) (Ok (says_goals (with_lemmas state expansion.lemmas) expansion.proof))
    e_done expansion may = goes_on tactic (sym is_read) (goes_on expansion (subst (λ (t : combinators.Tactic). Expansions t (Ok expansion)) means may) refl)
