use Rattle.std.proofs.Common.{refl, ap, ◌∙◌, List, ◌∷◌}
use Rattle.std.proofs.lemmas.Result.{err_from_is_err_and}
use Rattle.hol_model.specs.declared.symbol.Symbol.TheVariants.{Equal}
use Rattle.hol_model.specs.Texts.Token.{Token, Mark}
use Rattle.hol_model_sessions.specs.CommandGrammar.{def_command}
use Rattle.hol_syntax_grammar.specs.Views.{tokens_of}
use Rattle.hol_script_commands.proofs.CommandLemmas.{def-refused}
use Rattle.hol_script_commands.proofs.command.parse_def.Goals as goal

pub returns : goal.returns
returns c =
    let read = c.in_ok-parse_only_quote.ensures in
    let spelled = c.in-Some.ensures ∙ ap (λ (ts : List Token). Mark Equal ∷ ts) read.2 in
    let tree = def_command c.args.name.now read.0 in
    (tree, record { grammatical = read.1; kind_is = refl; name_is = refl; spelled = spelled }, record { term = read.0; is = refl; spelled = read.3 })

pub returns-in_err-parse_only_quote : goal.returns-in_err-parse_only_quote
returns-in_err-parse_only_quote c =
    let p = err_from_is_err_and c.from_residual.result c.from_residual.ensures.1 in
    rw (p.1, p.2)
    (def-refused c.in_err-parse_only_quote.field-0.0 c.args.name.now (tokens_of c.args.tokens.now) (tokens_of c.in-Some.quote.now) c.in-Some.ensures c.in_err-parse_only_quote.ensures)
