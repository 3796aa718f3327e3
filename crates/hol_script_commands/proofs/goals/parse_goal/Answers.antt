use Rattle.std.proofs.Common.{refl}
use Rattle.std.proofs.lemmas.Result.{err_from_is_err_and}
use Rattle.hol_model_sessions.specs.CommandGrammar.{goal_command}
use Rattle.hol_syntax_grammar.specs.Views.{tokens_of}
use Rattle.hol_script_commands.proofs.CommandLemmas.{goal-refused}
use Rattle.hol_script_commands.proofs.goals.parse_goal.Goals as goal

pub returns : goal.returns
returns c =
    let read = c.in_ok-parse_only_quote.ensures in
    (goal_command read.0, read.1, refl, read.2, record { term = read.0; is = refl; spelled = read.3 })

pub returns-in_err-parse_only_quote : goal.returns-in_err-parse_only_quote
returns-in_err-parse_only_quote c =
    let p = err_from_is_err_and c.from_residual.result c.from_residual.ensures.1 in
    rw (p.1, p.2)
    (goal-refused c.in_err-parse_only_quote.field-0.0 (tokens_of c.args.tokens.now) c.in_err-parse_only_quote.ensures)
