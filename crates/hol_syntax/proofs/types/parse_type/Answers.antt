use Rattle.std.proofs.Common.{◌≡◌, length, arith}
use Rattle.std.proofs.lemmas.Result.{err_from_is_err_and}
use Rattle.std.proofs.lemmas.List.{length-map}
use Rattle.hol_syntax_grammar.specs.Views.{token_of, tokens_of}
use Rattle.hol_syntax.proofs.TypeBuilding.{all_read}
use Rattle.hol_syntax.proofs.Readings.{type_unread, type_goes_on}
use Rattle.hol_syntax.proofs.types.parse_type.Goals as goal

pub returns-in_err-steps : goal.returns-in_err-steps
returns-in_err-steps c =
    let p = err_from_is_err_and c.from_residual.result c.from_residual.ensures.1 in
    rw (p.1, p.2)
    (type_unread c.in_err-steps.field-0.0 (tokens_of c.args.tokens.now) c.in_err-steps.ensures)

pub returns-then-count-tokens : goal.returns-then-count-tokens
returns-then-count-tokens c =
    let found = c.in_ok-steps.ensures in
    let size : length (tokens_of c.args.tokens.now) ≡ length c.args.tokens.now = length-map c.args.tokens.now token_of in
    type_goes_on (tokens_of c.args.tokens.now) c.in_ok-steps.count found.0 found.1 (omega (arith, c.if-count-tokens.true, size))

pub returns : goal.returns
returns c =
    let found = c.in_ok-steps.ensures in
    let size : length (tokens_of c.args.tokens.now) ≡ length c.args.tokens.now = length-map c.args.tokens.now token_of in
    (found.0, all_read (tokens_of c.args.tokens.now) c.in_ok-steps.count found.0 found.1 (omega (arith, c.if-count-tokens.false, size)), found.2)
