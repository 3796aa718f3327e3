-- The turns of texts: those that are refused before they are carried out, and those whose commands are carried out.
use Rattle.std.proofs.Common.{◌≡◌, inl, inr, ℕ, List, refl, sym, subst, Some, Result, Ok, Err}
use Rattle.hol_model.specs.declared.fault.Fault.{Fault}
use Rattle.hol_model.specs.declared.fault.Fault.TheVariants.{Memory, Syntax}
use Rattle.hol_model.specs.Texts.Token.{Token}
use Rattle.hol_model.specs.Texts.Lexing.{Lexes}
use Rattle.hol_model.specs.Texts.Reading.{Scope}
use Rattle.hol_model_sessions.specs.CommandGrammar.{CommandTree, IsReadCommand, SpellsCommand}
use Rattle.hol_model_sessions.specs.Replies.{refusal_of, Reply}
use Rattle.hol_model_sessions.specs.ScriptSessions.{State, Tools, Outcome, Allows, finds_no_memory, is_no_command, is_refused, is_done}
use Rattle.hol_model_sessions.specs.SessionCalls.{Turns}
use Rattle.hol_script_manager.specs.Session.{Printed}
use Rattle.hol_script_manager.specs.Session.{Refused}
use Rattle.hol_script_manager.specs.Session.{ComesTo, Performs, no_tools, Says, plain}
use Rattle.hol_script_manager.specs.Session.{any-tools-here}

module _ (tools : Tools) (state : State) (text : List ℕ) where
  abbrev RefusesFor : Fault → Type 0
  RefusesFor fault = Turns tools state (Some text) (Says (Err (plain fault))) state

  refuses : (fault : Fault) → Allows tools state (Some text) (Err (refusal_of fault)) → RefusesFor fault
  refuses fault allowed = record {
    outcome = Err (refusal_of fault);
    allowed = allowed;
    leaves = refl;
    says = record { same_fault = refl; spelled = refl };
    is_true = record { theorem = tt; goals = tt; row = tt };
  }

  pub lacks_memory : RefusesFor Memory
  lacks_memory = refuses Memory finds_no_memory

  -- a text without tokens
  pub unlexed : ((tokens : List Token) → ¬ (Lexes text tokens)) → RefusesFor Syntax
  unlexed none = refuses Syntax (is_no_command (λ tree spelled. none spelled.tokens spelled.lexed))

  -- a text whose tokens are no command's
  pub unread : (tokens : List Token) → ((other : List Token) → Lexes text other → tokens ≡ other) → ((tree : CommandTree) → ¬ (IsReadCommand tokens tree)) → RefusesFor Syntax
  unread tokens only none =
      refuses Syntax
      (is_no_command (λ tree spelled. none tree (subst (λ (ts : List Token). IsReadCommand ts tree) (sym (only spelled.tokens spelled.lexed)) spelled.read)))

-- what a command does is a turn of each text that spells it
module _ {tools : Tools} {old : State} (text : List ℕ) (command : CommandTree) (spelled : SpellsCommand text command) where
  allows : (outcome : Outcome) → ComesTo tools old command outcome → Allows tools old (Some text) outcome
  allows outcome (inl memory) = subst (Allows tools old (Some text)) (sym memory) finds_no_memory
  allows (Ok accepted) (inr may) = is_done command spelled may
  allows (Err refusal) (inr may) = is_refused command spelled may

  pub spelled_turn : {SaysSo : Scope → Reply → Type 0} {new : State} → Performs tools old command SaysSo new → Turns tools old (Some text) SaysSo new
  spelled_turn does = record {
    outcome = does.outcome;
    allowed = allows does.outcome does.comes;
    leaves = does.leaves;
    says = does.says;
    is_true = does.is_true;
  }
