-- What a command does in a session.
use Rattle.std.specs.Prelude.{◌≡◌, ◌⊎◌, Err}
use Rattle.hol_model.specs.declared.fault.Fault.TheVariants.{Memory}
use Rattle.hol_model.specs.Texts.Reading.{Scope}
use Rattle.hol_model_sessions.specs.CommandGrammar.{CommandTree}
use Rattle.hol_model_sessions.specs.Replies.{Reply, refusal_of}
use Rattle.hol_model_sessions.specs.ScriptSessions.{State, scope_in, Tools, Outcome, reply_of, state_after, May, IsTrueReply}

-- what may come of the command in a state, or that there is no memory
abbrev pub ComesTo : Tools → State → CommandTree → Outcome → Type 0
ComesTo tools state command outcome = (outcome ≡ Err (refusal_of Memory)) ⊎ May tools state command outcome

-- The command leads from a state to another, and the call says so.
pub record Performs (tools : Tools) (old : State) (command : CommandTree) (Says : Scope → Reply → Type 0) (new : State) : Type 0 where
  pub outcome : Outcome
  pub comes : ComesTo tools old command outcome
  pub leaves : new ≡ state_after old outcome
  pub says : Says (scope_in new) (reply_of outcome)
  pub is_true : IsTrueReply new (reply_of outcome)
