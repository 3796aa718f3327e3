use Rattle.std.proofs.Common.{◌≡◌, ◌∙◌, sym, true, false, arith}
use Rattle.hol_syntax_grammar.specs.Views.{tokens_of}
use Rattle.hol_script_commands.proofs.ReadingLemmas.{is_quote_at, is_quote_at-token, quote-taken, no_quote-taken, no_quote-more}
use Rattle.hol_script_commands.proofs.tokens.take_quote.Goals as goal

pub returns-then-is_quote : goal.returns-then-is_quote
returns-then-is_quote c =
    let inner = c.in_ok-inner.inner.now in
    let quote : is_quote_at inner c.loop-at.at ≡ true = is_quote_at-token inner c.loop-at.at _ c.loop-at-test.true ∙ sym c.if-is_quote.ensures in
    quote-taken (tokens_of c.args.tokens.now) inner c.loop-at.at c.in_ok-inner.ensures c.loop-at.invariant.1 quote

pub loop-at-preserved : goal.loop-at-preserved
loop-at-preserved c =
    let inner = c.in_ok-inner.inner.now in
    let none : is_quote_at inner c.loop-at.at ≡ false = is_quote_at-token inner c.loop-at.at _ c.loop-at-test.true ∙ sym c.if-is_quote.ensures in
    (omega arith, no_quote-more inner c.loop-at.at c.loop-at.invariant.1 none)

pub returns : goal.returns
returns c = no_quote-taken (tokens_of c.args.tokens.now) c.in_ok-inner.inner.now c.loop-at.at c.in_ok-inner.ensures c.loop-at.invariant.1 c.loop-at-test.false
