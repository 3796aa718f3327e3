use Rattle.std.proofs.Common.{◌≡◌, List, ◌∷◌, sym, ap, ◌∙◌, arith}
use Rattle.hol_model.specs.declared.symbol.Symbol.TheVariants.{Comma}
use Rattle.hol_model.specs.Texts.Token.{Token, Mark}
use Rattle.hol_model_sessions.specs.Commands.{quoted, pair_tokens}
use Rattle.hol_syntax_grammar.specs.Views.{tokens_of}
use Rattle.hol_script_commands.proofs.PairLemmas.{pair-front, no-pair, no-second, no-quote-behind}
use Rattle.hol_script_commands.proofs.pairs.take_pair.Goals as goal

pub returns-in_err-quote-2 : goal.returns-in_err-quote-2
returns-in_err-quote-2 c =
    let quote = tokens_of c.in_ok-quote.quote.now in
    let further = tokens_of c.in_ok-new.further.now in
    let new = c.in_ok-new.ensures in
    rw c.from_residual-in_err-quote-2.ensures
    (no-pair c.args.opening (tokens_of c.args.tokens.now) quote c.in_ok-quote.ensures
    (no-second quote (tokens_of c.in_ok-new.new.now) further new.0 new.1 (λ other rest. c.in_err-quote-2.ensures (quoted other rest))))

pub returns-in_err-old : goal.returns-in_err-old
returns-in_err-old c =
    let quote = tokens_of c.in_ok-quote.quote.now in
    let further = tokens_of c.in_ok-new.further.now in
    let new = c.in_ok-new.ensures in
    rw c.from_residual-in_err-old.ensures
    (no-pair c.args.opening (tokens_of c.args.tokens.now) quote c.in_ok-quote.ensures
    (no-second quote (tokens_of c.in_ok-new.new.now) further new.0 new.1
    (no-quote-behind further (tokens_of c.in_ok-quote-2.quote.now) c.in_ok-quote-2.ensures c.in_err-old.ensures)))

pub overflow_sub-result : goal.overflow_sub-result
overflow_sub-result c =
    let parts : List Token × List Token = (tokens_of c.in_ok-new.new.now, tokens_of c.in_ok-old.old.now) in
    (pair-front c.args.opening c.args.tokens.now c.in_ok-old.rest.now parts
    (c.in_ok-quote.ensures ∙ ap (λ (ts : List Token). Mark c.args.opening ∷ ts)
    (c.in_ok-new.ensures.0 ∙ ap (quoted parts.0) (c.in_ok-quote-2.ensures ∙ ap (λ (ts : List Token). Mark Comma ∷ ts) c.in_ok-old.ensures.0)))).within

pub returns : goal.returns
returns c =
    let parts : List Token × List Token = (tokens_of c.in_ok-new.new.now, tokens_of c.in_ok-old.old.now) in
    let read : tokens_of c.args.tokens.now ≡ Mark c.args.opening ∷ pair_tokens parts (tokens_of c.in_ok-old.rest.now) =
    c.in_ok-quote.ensures ∙ ap (λ (ts : List Token). Mark c.args.opening ∷ ts)
    (c.in_ok-new.ensures.0 ∙ ap (quoted parts.0) (c.in_ok-quote-2.ensures ∙ ap (λ (ts : List Token). Mark Comma ∷ ts) c.in_ok-old.ensures.0)) in
    let front = pair-front c.args.opening c.args.tokens.now c.in_ok-old.rest.now parts read in
    ((c.in_ok-new.ensures.1, c.in_ok-old.ensures.1), read ∙ ap (λ (ts : List Token). Mark c.args.opening ∷ pair_tokens parts ts) (sym front.behind), front.some, omega arith)
