use Rattle.hol_syntax_grammar.specs.Views.{tokens_of}
use Rattle.hol_script_commands.proofs.ReadingLemmas.{rule-parsed}
use Rattle.hol_script_commands.proofs.command.parse_rule.Goals as goal

pub returns-in-Some : goal.returns-in-Some
returns-in-Some c =
    rule-parsed c.parse_arguments.result (tokens_of c.args.tokens.now) (tokens_of c.in-Some.arguments.now) c.in-Some.word.now c.in-Some.ensures c.parse_arguments.ensures
