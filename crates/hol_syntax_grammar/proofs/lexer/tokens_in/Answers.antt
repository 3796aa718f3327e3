use Rattle.std.proofs.Common.{◌∷◌, [], sym, ap, ◌∙◌, subst}
use Rattle.std.proofs.lemmas.List.{map-append}
use Rattle.hol_model.specs.Texts.Lexing.{is_blank}
use Rattle.hol_syntax_grammar.specs.Lexer.{token_at}
use Rattle.hol_syntax_grammar.specs.Views.{token_of, tokens_of}
use Rattle.hol_syntax_grammar.proofs.Lexing.{IsLexedTo, less, lexed_none, lexed_one, no_tokens, all_tokens, only_tokens, not_empty, is_nil}
use Rattle.hol_syntax_grammar.proofs.lexer.tokens_in.Goals as goal

pub loop-rest-init : goal.loop-rest-init
loop-rest-init c =
    (c.args.text.now, subst (λ d. IsLexedTo c.args.text.now d c.args.text.now) (sym (ap tokens_of c.new-tokens.ensures.items)) (lexed_none c.args.text.now), c.split.ensures.back)

pub returns-in_default-clause-only : goal.returns-in_default-clause-only
returns-in_default-clause-only c =
    let g = c.loop-rest.invariant in
    no_tokens c.args.text.now (tokens_of c.loop-rest.tokens.items) g.0 g.1 (λ e. not_empty c.loop-rest.rest.now c.loop-rest-test.ensures (g.2 ∙ e))
    (ap token_at (sym g.2) ∙ c.in_default.ensures)

pub returns-clause-found : goal.returns-clause-found
returns-clause-found c =
    let g = c.loop-rest.invariant in
    all_tokens c.args.text.now (tokens_of c.loop-rest.tokens.items) g.0 g.1 (sym g.2 ∙ is_nil c.loop-rest.rest.now c.loop-rest-test.ensures)

pub returns-clause-only : goal.returns-clause-only
returns-clause-only c =
    let g = c.loop-rest.invariant in
    only_tokens c.args.text.now (tokens_of c.loop-rest.tokens.items) g.0 g.1 (sym g.2 ∙ is_nil c.loop-rest.rest.now c.loop-rest-test.ensures)

pub loop-rest-preserved : goal.loop-rest-preserved
loop-rest-preserved c =
    let g = c.loop-rest.invariant in
    let one = lexed_one c.args.text.now (tokens_of c.loop-rest.tokens.items) g.0 c.in-Some.behind.now (token_of c.in-Some.token) g.1
    (ap token_at (sym g.2) ∙ c.in-Some.ensures) (λ e. not_empty c.loop-rest.rest.now c.loop-rest-test.ensures (g.2 ∙ e)) in (
      c.in-Some.behind.now,
      subst (λ d. IsLexedTo c.args.text.now d c.in-Some.behind.now)
          (sym (ap tokens_of c.in_ok-push.ensures.items ∙ map-append token_of c.loop-rest.tokens.items (c.in-Some.token ∷ []))) one,
      c.split-in-loop-rest.ensures.back,
    )

pub loop-rest-smaller : goal.loop-rest-smaller
loop-rest-smaller c =
    let l = less is_blank c.loop-rest.rest.now c.in-Some.behind.now (token_of c.in-Some.token) c.in-Some.ensures in
    rw c.split-in-loop-rest.ensures.back l
