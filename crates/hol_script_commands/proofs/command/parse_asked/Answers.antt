use Rattle.hol_syntax_grammar.specs.Views.{tokens_of}
use Rattle.hol_script_commands.proofs.CommandLemmas.{rule-asked}
use Rattle.hol_script_commands.proofs.command.parse_asked.Goals as goal

pub returns : goal.returns
returns c = rule-asked c.in_ok-parse_rule.field-0 (tokens_of c.args.tokens.now) c.in_ok-parse_rule.ensures
