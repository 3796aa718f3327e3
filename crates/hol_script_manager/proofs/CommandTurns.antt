-- What a call answers to the command of a tree.
use Rattle.std.proofs.Common.{◌≡◌, sym, subst, Result}
use Rattle.hol_model_sessions.specs.CommandGrammar.{CommandTree}
use Rattle.hol_model_sessions.specs.ScriptSessions.{State, Tools}
use Rattle.hol_script_manager.specs.Session.{Printed, Refused, Performs, no_tools, Says, any-tools-here}

pub carried : {tools : Tools} {old new : State} {tree command : CommandTree} {answer said : Result Printed Refused} → tree ≡ command → answer ≡ said
    → Performs tools old command (Says said) new → Performs tools old tree (Says answer) new
carried {tools} {old} {new} {tree} {command} {answer} {said} is same performs =
    subst (λ (given : Result Printed Refused). Performs tools old tree (Says given) new) (sym same)
    (subst (λ (asked : CommandTree). Performs tools old asked (Says said) new) (sym is) performs)

-- also of a call that uses no tools
pub carried-plainly : {tools : Tools} {old new : State} {tree command : CommandTree} {answer said : Result Printed Refused} → tree ≡ command → answer ≡ said
    → Performs no_tools old command (Says said) new → Performs tools old tree (Says answer) new
carried-plainly {tools} is same performs = any-tools-here tools (carried is same performs)
