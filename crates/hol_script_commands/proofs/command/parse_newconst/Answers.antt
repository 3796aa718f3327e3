use Rattle.std.proofs.Common.{refl}
use Rattle.std.proofs.lemmas.Result.{err_from_is_err_and}
use Rattle.hol_model_sessions.specs.CommandGrammar.{newconst_command}
use Rattle.hol_syntax_grammar.specs.Views.{tokens_of}
use Rattle.hol_script_commands.proofs.CommandLemmas.{newconst-refused}
use Rattle.hol_script_commands.proofs.command.parse_newconst.Goals as goal

pub returns : goal.returns
returns c =
    let read = c.in_ok-parse_typing.ensures in
    let tree = newconst_command c.args.name.now read.0 in
    (tree, record { grammatical = read.1; kind_is = refl; name_is = refl; spelled = read.2 }, record { ty = read.0; is = refl; spelled = read.3 })

pub returns-in_err-parse_typing : goal.returns-in_err-parse_typing
returns-in_err-parse_typing c =
    let p = err_from_is_err_and c.from_residual.result c.from_residual.ensures.1 in
    rw (p.1, p.2)
    (newconst-refused c.in_err-parse_typing.field-0.0 c.args.name.now (tokens_of c.args.tokens.now) c.in_err-parse_typing.ensures)
