use Rattle.std.proofs.Common.{refl, ap, ◌∙◌, List, ◌∷◌}
use Rattle.std.proofs.lemmas.Result.{err_from_is_err_and}
use Rattle.hol_model.specs.declared.symbol.Symbol.TheVariants.{Equal}
use Rattle.hol_model.specs.Texts.Token.{Token, Mark}
use Rattle.hol_model_sessions.specs.CommandGrammar.{thm_command}
use Rattle.hol_syntax_grammar.specs.Views.{tokens_of}
use Rattle.hol_script_commands.proofs.ReadingLemmas.{behind-mark}
use Rattle.hol_script_commands.proofs.CommandLemmas.{thm-refused}
use Rattle.hol_script_commands.proofs.command.parse_thm.Goals as goal

pub parse_asked-requires : goal.parse_asked-requires
parse_asked-requires c = behind-mark Equal (tokens_of c.args.tokens.now) (tokens_of c.in-Some.asked.now) c.in-Some.ensures c.requires

pub returns : goal.returns
returns c =
    let read = c.in_ok-parse_asked.ensures in
    let spelled = c.in-Some.ensures ∙ ap (λ (ts : List Token). Mark Equal ∷ ts) read.2 in
    let tree = thm_command c.args.name.now read.0 in
    (tree, record { grammatical = read.1; kind_is = refl; name_is = refl; spelled = spelled }, record { theorem = read.0; is = refl; asks = read.3 })

pub returns-in_err-parse_asked : goal.returns-in_err-parse_asked
returns-in_err-parse_asked c =
    let p = err_from_is_err_and c.from_residual.result c.from_residual.ensures.1 in
    rw (p.1, p.2)
    (thm-refused c.in_err-parse_asked.field-0.0 c.args.name.now (tokens_of c.args.tokens.now) (tokens_of c.in-Some.asked.now) c.in-Some.ensures c.in_err-parse_asked.ensures)
