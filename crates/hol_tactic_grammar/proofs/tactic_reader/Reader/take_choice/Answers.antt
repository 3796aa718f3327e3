use Rattle.std.proofs.Common.{◌+◌, map, arith}
use Rattle.std.proofs.lemmas.Result.{err_from_is_err_and}
use Rattle.hol_syntax_grammar.specs.Views.{tokens_of}
use Rattle.hol_tactic_grammar.specs.declared.tactic_reader.Open.TheVariants.{Choice}
use Rattle.hol_tactic_grammar.specs.declared.tactic_reader.Reading.TheVariants as readings
use Rattle.hol_tactic_grammar.specs.Tokens.{behind}
use Rattle.hol_tactic_grammar.specs.Expressions.{expression_here}
use Rattle.hol_tactic_grammar.specs.OpenTactics.{opens_of, turns_left}
use Rattle.hol_tactic_grammar.proofs.OpenTacticLemmas.{unmade, waits, choice-waits, choice-whole}
use Rattle.hol_tactic_grammar.proofs.tactic_reader.Reader.take_choice.Goals as goal

pub returns-then-is_word : goal.returns-then-is_word
returns-then-is_word c =
    let reader = c.args.self.now in
    let tokens = c.args.tokens.now in
    waits c.wait.result reader c.wait.new.self (Choice c.args.first c.args.others) (c.args.next + 1) (turns_left (readings.Choice c.args.first c.args.others c.args.next) reader tokens) tokens
    c.wait.ensures (choice-waits (opens_of reader) reader.room c.args.next (tokens_of tokens) c.args.first c.args.others tokens c.requires.reading c.if-is_word.ensures)
    (omega (arith, c.if-is_word.ensures.within))

pub returns : goal.returns
returns c =
    let reader = c.args.self.now in
    let tokens = c.args.tokens.now in
    c.end_choice.ensures tokens (choice-whole (opens_of reader) reader.room (tokens_of tokens) (behind c.args.next tokens) (expression_here c.args.first) (expression_here c.in_ok-choice.choice)
    (map expression_here c.args.others.items) c.requires.reading c.if-is_word.ensures c.in_ok-choice.ensures)

pub returns-in_err-choice : goal.returns-in_err-choice
returns-in_err-choice c =
    let p = err_from_is_err_and c.from_residual.result c.from_residual.ensures.1 in
    rw (p.1, p.2) (unmade c.in_err-choice.field-0.0 _ c.args.tokens.now c.in_err-choice.ensures)

pub end_choice-requires : goal.end_choice-requires
end_choice-requires c = c.requires.reading.wanted
