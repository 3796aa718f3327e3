-- What a manager's commands are refused for.
use Rattle.std.specs.Prelude.{◌≡◌, ◌⊎◌, ℕ, [], Err}
use Rattle.hol_model.specs.Texts.TermGrammar.{TermTree}
use Rattle.hol_model.specs.Texts.Reading.{meaning}
use Rattle.hol_model.specs.Refining.HostFunctions.{Host}
use Rattle.hol_model_sessions.specs.ConversionGrammar.{ConversionUnit}
use Rattle.hol_model_sessions.specs.TacticGrammar.{Tactic, read_tactic}
use Rattle.hol_model_sessions.specs.CommandGrammar.{by_conversion, e_command}
use Rattle.hol_model_sessions.specs.Replies.{Refusal}
use Rattle.hol_model_sessions.specs.ScriptSessions.{scope_in, IsTheoremAnswer, May}
use Rattle.hol_model_sessions.specs.SessionTools.{tools}
use Rattle.hol_laws_refusals.specs.Faults.{IsConversionFault}
use Rattle.hol_laws_refusals.specs.SessionRefusals.{IsExpansionFault}
use Rattle.hol_script_manager.specs.declared.manager.Manager.{Manager}
use Rattle.hol_script_manager.specs.Managers.{state_of, IsManager}

-- What a manager may answer to `e` and to the theorem of a conversion, where it is refused: the refusal of the first quoted
-- term that is refused, or one of the refusals of the command, whatever a host's functions answer.
pub record Refuses (host : Host) (manager : Manager) : Type 0 where
  pub expanding : (steps : ℕ) (tree : Tactic TermTree) (refusal : Refusal) → May (tools host steps) (state_of manager) (e_command tree) (Err refusal)
      → (read_tactic (meaning (scope_in (state_of manager)) []) tree ≡ Err refusal.fault) ⊎ IsExpansionFault refusal.fault
  pub converting : (steps : ℕ) (conversion : ConversionUnit) (tree : TermTree) (refusal : Refusal)
      → IsTheoremAnswer (tools host steps) (state_of manager) (by_conversion conversion tree) (Err refusal)
      → (meaning (scope_in (state_of manager)) [] tree ≡ Err refusal.fault) ⊎ IsConversionFault refusal.fault

abbrev pub ManagersRefuse : Host → Type 0
ManagersRefuse host = (manager : Manager) → IsManager manager → Refuses host manager
