use Rattle.std.proofs.Common.{Ok, Err}
use Rattle.std.proofs.lemmas.Result.{err_from_is_err_and}
use Rattle.hol_tactic_grammar.proofs.QuoteLemmas.{unclosed, quote-read}
use Rattle.hol_tactic_grammar.proofs.quotes.read_quote.Goals as goal

pub returns-in_default : goal.returns-in_default
returns-in_default c = unclosed c.args.at c.args.tokens.now c.if-not-is_mark.ensures c.in_default.ensures

pub returns : goal.returns
returns c = quote-read (Ok c.in_ok-steps.steps) c.args.at c.in-Some.end c.args.tokens.now c.if-not-is_mark.ensures c.in-Some.ensures.0 c.in-Some.ensures.1 c.in_ok-steps.ensures

pub returns-in_err-steps : goal.returns-in_err-steps
returns-in_err-steps c =
    let p = err_from_is_err_and c.from_residual.result c.from_residual.ensures.1 in
    rw (p.1, p.2)
    (quote-read (Err c.in_err-steps.field-0.0) c.args.at c.in-Some.end c.args.tokens.now c.if-not-is_mark.ensures c.in-Some.ensures.0 c.in-Some.ensures.1 c.in_err-steps.ensures)
