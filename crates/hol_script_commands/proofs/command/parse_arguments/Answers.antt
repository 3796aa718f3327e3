use Rattle.hol_syntax_grammar.specs.Views.{tokens_of}
use Rattle.hol_script_commands.proofs.ReadingLemmas.{rule-worded}
use Rattle.hol_script_commands.proofs.command.parse_arguments.Goals as goal

pub returns-in-Some : goal.returns-in-Some
returns-in-Some c = rule-worded c.parse_named.result c.args.word.now c.in-Some.rule (tokens_of c.args.tokens.now) c.in-Some.ensures c.parse_named.ensures
