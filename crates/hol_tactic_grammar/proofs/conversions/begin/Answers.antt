use Rattle.std.proofs.Common.{◌+◌, rules, reverse, sym}
use Rattle.std.proofs.lemmas.Result.{err_from_is_err_and}
use Rattle.hol_model.specs.Texts.Token.{Name}
use Rattle.hol_model_sessions.specs.ConversionGrammar.{conversional_word}
use Rattle.hol_syntax_grammar.specs.declared.type_reader.ReadError.TheVariants.{Syntax}
use Rattle.hol_tactic_grammar.specs.Tokens.{behind, IsAt}
use Rattle.hol_tactic_grammar.specs.ConversionWords.{conversional_of}
use Rattle.hol_tactic_grammar.proofs.ConversionLemmas.{no-unit, no-unit-word}
use Rattle.hol_tactic_grammar.proofs.OpenConversionLemmas.{unread, enclosed-entered, prefixed-entered, leaf-taken}
use Rattle.hol_tactic_grammar.proofs.conversions.begin.Goals as goal

pub returns-then-is_mark : goal.returns-then-is_mark
returns-then-is_mark c = λ start wanted.
    enclosed-entered c.new.result c.new-then-is_mark.result c.enter.result (reverse c.args.places.now.items) (reverse c.enter.new.places.items) c.args.at start c.args.limit c.args.tokens.now
    c.new.ensures.items c.new-then-is_mark.ensures.items c.if-is_mark.ensures c.enter.ensures wanted

pub returns-in-Some-prefix_named : goal.returns-in-Some-prefix_named
returns-in-Some-prefix_named c = λ start wanted.
    let front : IsAt (Name (conversional_word (conversional_of c.in-Some-prefix_named.prefix))) c.args.at c.args.tokens.now = search rules in
    prefixed-entered c.in-Some-prefix_named.prefix c.enter-in-Some-prefix_named.result (reverse c.args.places.now.items) (reverse c.enter-in-Some-prefix_named.new.places.items) c.args.at start
    c.args.limit c.args.tokens.now front c.enter-in-Some-prefix_named.ensures wanted

pub returns-in_default : goal.returns-in_default
returns-in_default c = λ start wanted.
    unread (reverse c.args.places.now.items) Syntax c.args.at wanted.room start c.args.limit c.args.tokens.now wanted.around
    (no-unit wanted.room (behind c.args.at c.args.tokens.now) c.if-is_mark.ensures c.in_default.ensures)

pub returns-in_default-single_named : goal.returns-in_default-single_named
returns-in_default-single_named c = λ start wanted.
    unread (reverse c.args.places.now.items) Syntax c.args.at wanted.room start c.args.limit c.args.tokens.now wanted.around
    (no-unit-word wanted.room (behind c.args.at c.args.tokens.now) (behind (c.args.at + 1) c.args.tokens.now) c.in-Some.word.now c.in-Some.ensures.front
    (sym c.in_default-prefix_named.ensures) (sym c.in_default-single_named.ensures))

pub returns : goal.returns
returns c = λ start wanted. leaf-taken c.in_ok-conv.conv (reverse c.args.places.now.items) c.args.at c.in_ok-conv.next start c.args.limit c.args.tokens.now c.in_ok-conv.ensures wanted

pub returns-in_err-conv : goal.returns-in_err-conv
returns-in_err-conv c =
    let p = err_from_is_err_and c.from_residual.result c.from_residual.ensures.1 in
    rw (p.1, p.2) (λ start wanted.
    unread (reverse c.args.places.now.items) c.in_err-conv.field-0.0 c.args.at wanted.room start c.args.limit c.args.tokens.now wanted.around (c.in_err-conv.ensures wanted.room))
