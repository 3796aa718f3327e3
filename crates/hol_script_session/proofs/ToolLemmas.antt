-- What a command does with no tools it does with any.
use Rattle.std.proofs.Common.{inl, inr, List, [], Bool, true, false, not, Result, Ok, Err}
use Rattle.std.specs.Prelude.{is_some}
use Rattle.hol_model.specs.declared.fault.Fault.{Fault}
use Rattle.hol_model.specs.declared.fault.Fault.TheVariants.{BadName, NameTaken}
use Rattle.hol_model.specs.Terms.NamedTerm.{NamedTerm}
use Rattle.hol_model.specs.Kernel.Theorem.{Theorem}
use Rattle.hol_model.specs.Kernel.Answers.{Is, Unless, Then, goes_on, stops}
use Rattle.hol_model.specs.Goals.GoalStates.{Expansion}
use Rattle.hol_model.specs.Texts.Reading.{Scope}
use Rattle.hol_model.specs.Texts.TermGrammar.{TermTree}
use Rattle.hol_model_sessions.specs.TacticGrammar.{Tactic}
use Rattle.hol_model_sessions.specs.CommandGrammar.{TheoremTree, by_rule, by_tautology, by_conversion, CommandTree, var_command, newtype_command}
use Rattle.hol_model_sessions.specs.CommandGrammar.{newconst_command, def_command, thm_command, show_command, goal_command, e_command, b_command}
use Rattle.hol_model_sessions.specs.CommandGrammar.{p_command, r_command, save_command}
use Rattle.hol_model_sessions.specs.Sessions.{is_theorem_name}
use Rattle.hol_model_sessions.specs.Replies.{Reply, Refusal, refusal_of}
use Rattle.hol_model_sessions.specs.ScriptSessions.{State, Tools, Accepted, Outcome, Plainly, WithRow, stores, IsTheoremAnswer, IsExpansion, IsRefined, May}
use Rattle.hol_script_session.specs.Answers.{no_tools}
use Rattle.hol_script_session.specs.Performing.{ComesTo, Performs}

-- ---- forms of answers

unless-so : {A E : Type 0} (test : Bool) (fault : E) (first second : Result A E → Type 0) (answer : Result A E) → (first answer → second answer)
    → Unless test fault first answer → Unless test fault second answer
unless-so true fault first second answer so may = so may
unless-so false fault first second answer so may = may

then-so : {A B E : Type 0} (first second : Result A E → Type 0) (next : A → Result B E → Type 0) (answer : Result B E) → ((found : Result A E) → first found → second found)
    → Then first next answer → Then second next answer
then-so first second next answer so (goes_on x is follows) = goes_on x (so (Ok x) is) follows
then-so first second next answer so (stops fault is same) = stops fault (so (Err fault) is) same

-- no answer has a row
rowless : {A : Type 0} (atoms : List NamedTerm) (answer : Result A Refusal) → WithRow atoms (λ found. ⊥) answer → ⊥
rowless atoms (Ok x) never = never
rowless atoms (Err refusal) never = never.0

plainly-none : {A : Type 0} (answer : Result A Refusal) → Plainly (λ found. ⊥) answer → ⊥
plainly-none (Ok x) never = never
plainly-none (Err refusal) never = never.0

-- ---- commands

module _ (tools : Tools) (state : State) where
  theorem-so : (tree : TheoremTree) (answer : Result Theorem Refusal) → IsTheoremAnswer no_tools state tree answer → IsTheoremAnswer tools state tree answer
  theorem-so (by_rule rule) answer may = may
  theorem-so (by_tautology tree) answer (goes_on term is follows) = absurd (rowless [] answer follows)
  theorem-so (by_tautology tree) answer (stops fault is same) = stops fault is same
  theorem-so (by_conversion conversion tree) answer (goes_on term is follows) = absurd (plainly-none answer follows)
  theorem-so (by_conversion conversion tree) answer (stops fault is same) = stops fault is same

  expansion-so : (tactic : Tactic NamedTerm) (answer : Result Expansion Fault) → IsExpansion no_tools state tactic answer → IsExpansion tools state tactic answer
  expansion-so tactic answer (goes_on focus is (goes_on refinement never follows)) = absurd never
  expansion-so tactic answer (goes_on focus is (stops fault never same)) = absurd never
  expansion-so tactic answer (stops fault is same) = stops fault is same

  refined-so : (tree : Tactic TermTree) (answer : Result Accepted Fault) → IsRefined no_tools state tree answer → IsRefined tools state tree answer
  refined-so tree answer (goes_on tactic is follows) = goes_on tactic is (then-so (IsExpansion no_tools state tactic) (IsExpansion tools state tactic) _ answer (expansion-so tactic) follows)
  refined-so tree answer (stops fault is same) = stops fault is same

  may-so : (tree : CommandTree) (outcome : Outcome) → May no_tools state tree outcome → May tools state tree outcome
  may-so (thm_command name tree) outcome may =
      unless-so (is_theorem_name name) (refusal_of BadName) _ _ outcome
      (unless-so (not (is_some (state.library.theorems name))) (refusal_of NameTaken) _ _ outcome
      (then-so (IsTheoremAnswer no_tools state tree) (IsTheoremAnswer tools state tree) (λ theorem. Is (Ok (stores state name theorem))) outcome (theorem-so tree))) may
  may-so (e_command tree) (Ok accepted) may = refined-so tree (Ok accepted) may
  may-so (e_command tree) (Err refusal) may = (refined-so tree (Err refusal.fault) may.0, may.1)
  may-so (var_command name tree) outcome may = may
  may-so (newtype_command name) outcome may = may
  may-so (newconst_command name tree) outcome may = may
  may-so (def_command name tree) outcome may = may
  may-so (show_command name) outcome may = may
  may-so (goal_command tree) outcome may = may
  may-so b_command outcome may = may
  may-so p_command outcome may = may
  may-so (r_command digits) outcome may = may
  may-so (save_command name) outcome may = may

  comes-so : (tree : CommandTree) (outcome : Outcome) → ComesTo no_tools state tree outcome → ComesTo tools state tree outcome
  comes-so tree outcome (inl memory) = inl memory
  comes-so tree outcome (inr may) = inr (may-so tree outcome may)

-- what a call does with no tools it does with these
pub any-tools-here : (tools : Tools) {old new : State} {tree : CommandTree} {Says : Scope → Reply → Type 0} → Performs no_tools old tree Says new → Performs tools old tree Says new
any-tools-here tools {old} {new} {tree} call = record {
  outcome = call.outcome;
  comes = comes-so tools old tree call.outcome call.comes;
  leaves = call.leaves;
  says = call.says;
  is_true = call.is_true;
}
