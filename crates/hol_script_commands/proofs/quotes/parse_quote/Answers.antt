use Rattle.std.proofs.lemmas.Result.{err_from_is_err_and}
use Rattle.hol_syntax_grammar.specs.Views.{tokens_of}
use Rattle.hol_script_commands.proofs.ReadingLemmas.{quote-error}
use Rattle.hol_script_commands.proofs.quotes.parse_quote.Goals as goal

pub returns-in_err-parse_term : goal.returns-in_err-parse_term
returns-in_err-parse_term c =
    let p = err_from_is_err_and c.from_residual.result c.from_residual.ensures.1 in
    rw (p.1, p.2)
    (quote-error c.in_err-parse_term.field-0.0 (tokens_of c.args.tokens.now) (tokens_of c.in-Some.inner.now) (tokens_of c.in-Some.rest.now) c.in-Some.ensures c.in_err-parse_term.ensures)
