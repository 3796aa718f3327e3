-- What the calls on a session answer.
use Rattle.std.specs.Prelude.{◌≡◌, ℕ, List, Option}
use Rattle.std.specs.Option.{option_map}
use Rattle.hol_model.specs.declared.fault.Fault.{Fault}
use Rattle.hol_model.specs.Texts.Reading.{Scope}
use Rattle.hol_model_sessions.specs.Script.{Request}
use Rattle.hol_model_sessions.specs.Replies.{Message, Refusal, Reply, theorem_in_message, message_text, row_text}
use Rattle.hol_model_sessions.specs.ScriptSessions.{State, scope_in, Tools, Outcome, reply_of, state_after, Allows, IsTrueReply, Turn, Takes}

-- what is printed of an accepted command, and the name of the theorem in it, if any
pub record SaysMessage (scope : Scope) (text : List ℕ) (name : Option (List ℕ)) (message : Message) : Type 0 where
  pub spelled : text ≡ message_text scope message
  pub named : name ≡ option_map (λ shown. shown.name) (theorem_in_message message)

-- the fault of a refused command, and the text of its row
pub record SaysRefusal (scope : Scope) (fault : Fault) (row : List ℕ) (refusal : Refusal) : Type 0 where
  pub same_fault : fault ≡ refusal.fault
  pub spelled : row ≡ row_text scope refusal.row

-- A turn of a session, of which the call says so.
pub record Turns (tools : Tools) (old : State) (text : Option (List ℕ)) (Says : Scope → Reply → Type 0) (new : State) : Type 0 where
  pub outcome : Outcome
  pub allowed : Allows tools old text outcome
  pub leaves : new ≡ state_after old outcome
  pub says : Says (scope_in new) (reply_of outcome)
  pub is_true : IsTrueReply new (reply_of outcome)

-- the turn of a request in a line
pub record IsTurn (tools : Tools) (old : State) (request : Request) (Says : Scope → Reply → Type 0) (new : State) : Type 0 where
  pub turn : Turn
  pub takes : Takes tools old request turn
  pub leaves : turn.after ≡ new
  pub says : Says (scope_in turn.after) turn.reply
