use Rattle.std.proofs.lemmas.Result.{err_from_is_err_and}
use Rattle.hol_script_commands.proofs.CommandLemmas.{conversion-read, no-conversion}
use Rattle.hol_script_commands.proofs.quotes.parse_conversion_and_quote.Goals as goal

pub returns-in_err-conversion : goal.returns-in_err-conversion
returns-in_err-conversion c =
    let p = err_from_is_err_and c.from_residual.result c.from_residual.ensures.1 in
    rw (p.1, p.2)
    (no-conversion c.in_err-conversion.field-0.0 c.args.tokens.now c.in_err-conversion.ensures)

pub returns : goal.returns
returns c =
    conversion-read c.in_ok-conversion.conversion c.in_ok-steps.steps c.args.tokens.now c.in_ok-conversion.count c.in_ok-conversion.ensures.1 c.in_ok-steps.ensures
