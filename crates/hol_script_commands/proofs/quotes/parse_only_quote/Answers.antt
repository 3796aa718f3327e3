use Rattle.std.proofs.Common.{ap, ◌∙◌}
use Rattle.hol_model_sessions.specs.Commands.{quote_tokens}
use Rattle.hol_syntax_grammar.specs.Views.{tokens_of}
use Rattle.hol_script_commands.proofs.ReadingLemmas.{no-tokens, some-tokens, more-behind}
use Rattle.hol_script_commands.proofs.quotes.parse_only_quote.Goals as goal

pub returns-then-not-is_empty : goal.returns-then-not-is_empty
returns-then-not-is_empty c =
    let read = c.in_ok-steps.ensures in
    let rest = c.in_ok-steps.rest.now in
    more-behind (tokens_of c.args.tokens.now) rest read.0 read.1 read.2 (some-tokens rest c.if-not-is_empty.ensures)

pub returns : goal.returns
returns c =
    let read = c.in_ok-steps.ensures in
    (read.0, read.1, read.2 ∙ ap (quote_tokens read.0) (no-tokens c.in_ok-steps.rest.now c.if-not-is_empty.ensures), read.3)
