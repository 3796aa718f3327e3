-- What a manager's commands are refused for.
use Rattle.std.proofs.Common.{subst}
use Rattle.hol_model.specs.Texts.Reading.{Scope}
use Rattle.hol_model.specs.Refining.HostFunctions.{Host}
use Rattle.hol_laws_sessions.specs.ReadTerms.{IsScopeOver}
use Rattle.hol_laws_refusals.specs.SessionRefusals.{IsSound}
use Rattle.hol_laws_refusals.proofs.SessionRefusals.{expanding-refuses, converting-refuses}
use Rattle.hol_script_manager.specs.declared.manager.Manager.{Manager}
use Rattle.hol_script_manager.specs.Managers.{state_of, IsManager}
use Rattle.hol_script_manager.specs.Refusals.{ManagersRefuse}
use Rattle.hol_script_manager.proofs.Managing.{theory_in, scope_known}
use Rattle.hol_script_manager.proofs.Expanding.{logic_there}

-- a manager keeps a sound session
sound : (manager : Manager) → IsManager manager → IsSound (state_of manager)
sound manager is = record {
  logic = logic_there manager is;
  proved = is.session.proved;
  scope = subst (λ (scope : Scope). IsScopeOver (theory_in manager) scope) (scope_known manager is) is.session.scope;
  proof = is.stack.proof;
}

pub managers-refuse : (host : Host) → ManagersRefuse host
managers-refuse host manager is = record {
  expanding = λ steps tree refusal may. expanding-refuses host steps (state_of manager) tree refusal (sound manager is) may;
  converting = λ steps conversion tree refusal answers. converting-refuses host steps (state_of manager) conversion tree refusal (sound manager is) answers;
}
