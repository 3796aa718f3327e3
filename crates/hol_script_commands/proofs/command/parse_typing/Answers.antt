use Rattle.hol_syntax_grammar.specs.Views.{tokens_of}
use Rattle.hol_script_commands.proofs.CommandLemmas.{typing-parsed}
use Rattle.hol_script_commands.proofs.command.parse_typing.Goals as goal

pub returns-in-Some : goal.returns-in-Some
returns-in-Some c = typing-parsed c.parse_type.result (tokens_of c.args.tokens.now) (tokens_of c.in-Some.ty.now) c.in-Some.ensures c.parse_type.ensures
