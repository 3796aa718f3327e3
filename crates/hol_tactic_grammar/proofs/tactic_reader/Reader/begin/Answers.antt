use Rattle.std.proofs.Common.{◌+◌, sym, rules}
use Rattle.hol_model.specs.declared.symbol.Symbol.TheVariants.{OpenParenthesis}
use Rattle.hol_model.specs.Texts.Token.{Name, Mark}
use Rattle.hol_syntax_grammar.specs.Views.{tokens_of}
use Rattle.hol_tactic_grammar.specs.declared.tactic_reader.Open.TheVariants.{Prefixed, Enclosed}
use Rattle.hol_tactic_grammar.specs.TacticWords.{prefix_word}
use Rattle.hol_tactic_grammar.specs.Tokens.{behind, IsAt}
use Rattle.hol_tactic_grammar.specs.OpenTactics.{opens_of}
use Rattle.hol_tactic_grammar.proofs.LeafLemmas.{no-unit, no-unit-word}
use Rattle.hol_tactic_grammar.proofs.OpenTacticLemmas.{unit-fails, begins, enclosed-deep, prefix-deep, leaf-goes}
use Rattle.hol_tactic_grammar.proofs.tactic_reader.Reader.begin.Goals as goal

pub returns-then-is_mark : goal.returns-then-is_mark
returns-then-is_mark c =
    begins c.nest.result c.args.self.now c.nest.new.self Enclosed (Mark OpenParenthesis) c.args.at c.args.tokens.now (λ room inner opened. opened) enclosed-deep c.nest.ensures
    c.requires.reading c.if-is_mark.ensures

pub returns-in_default : goal.returns-in_default
returns-in_default c =
    let reader = c.args.self.now in
    let tokens = c.args.tokens.now in
    unit-fails (opens_of reader) reader.room (tokens_of tokens) (behind c.args.at tokens) c.requires.reading
    (no-unit reader.room (behind c.args.at tokens) c.if-is_mark.ensures c.in_default.ensures)

pub returns-in_default-start_named : goal.returns-in_default-start_named
returns-in_default-start_named c =
    let reader = c.args.self.now in
    let tokens = c.args.tokens.now in
    unit-fails (opens_of reader) reader.room (tokens_of tokens) (behind c.args.at tokens) c.requires.reading
    (no-unit-word reader.room (behind c.args.at tokens) (behind (c.args.at + 1) tokens) c.in-Some.word.now c.in-Some.ensures.front (sym c.in_default-start_named.ensures))

pub returns-in-OfPrefix : goal.returns-in-OfPrefix
returns-in-OfPrefix c =
    let prefix = c.in-OfPrefix.prefix in
    let front : IsAt (Name (prefix_word prefix)) c.args.at c.args.tokens.now = search rules in
    begins c.nest-in-OfPrefix.result c.args.self.now c.nest-in-OfPrefix.new.self (Prefixed prefix) (Name (prefix_word prefix)) c.args.at c.args.tokens.now (λ room inner opened. opened)
    (prefix-deep prefix) c.nest-in-OfPrefix.ensures c.requires.reading front

pub returns-in-OfPlain : goal.returns-in-OfPlain
returns-in-OfPlain c =
    leaf-goes c.read_plain.result c.read_up_to.result c.args.at c.args.self.now c.args.tokens.now c.read_up_to.ensures (c.read_plain.ensures c.args.self.now.room)
    c.requires.reading

pub returns-in-OfNamed : goal.returns-in-OfNamed
returns-in-OfNamed c =
    leaf-goes c.read_by_name.result c.read_up_to-in-OfNamed.result c.args.at c.args.self.now c.args.tokens.now c.read_up_to-in-OfNamed.ensures
    (c.read_by_name.ensures c.args.self.now.room) c.requires.reading

pub returns-in-OfQuoted : goal.returns-in-OfQuoted
returns-in-OfQuoted c =
    leaf-goes c.read_by_quote.result c.read_up_to-in-OfQuoted.result c.args.at c.args.self.now c.args.tokens.now c.read_up_to-in-OfQuoted.ensures
    (c.read_by_quote.ensures c.args.self.now.room) c.requires.reading

pub returns-in-OfOther : goal.returns-in-OfOther
returns-in-OfOther c =
    leaf-goes c.read_other.result c.read_up_to-in-OfOther.result c.args.at c.args.self.now c.args.tokens.now c.read_up_to-in-OfOther.ensures c.read_other.ensures
    c.requires.reading
