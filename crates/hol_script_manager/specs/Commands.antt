-- Commands as they are carried out.
use Rattle.hol_model_sessions.specs.CommandGrammar.{CommandTree}
use Rattle.hol_script_commands.specs.declared.command.Command.{Command}
use Rattle.hol_script_commands.specs.Views.{IsCommand}

-- the command is that of a tree of the grammar
pub record IsCommandOfTree (command : Command) : Type 0 where
  pub tree : CommandTree
  pub is : IsCommand command tree
