use Rattle.std.proofs.Common.{◌+◌, ◌*◌, ◌-◌, List, length, map, arith, ap, ◌∙◌, vec_len}
use Rattle.hol_tactic_exprs.specs.declared.tac.Tac.{Tac}
use Rattle.hol_tactic_exprs.specs.declared.tac.Link.{Thenl}
use Rattle.hol_syntax_grammar.specs.Views.{tokens_of}
use Rattle.hol_tactic_grammar.specs.declared.tactic_reader.Open.TheVariants.{Listed}
use Rattle.hol_tactic_grammar.specs.declared.tactic_reader.Reading.TheVariants as readings
use Rattle.hol_tactic_grammar.specs.Expressions.{Kept, on_each, expression_here, joint_here, all_expressions}
use Rattle.hol_tactic_grammar.specs.OpenTactics.{opens_of, turns_left}
use Rattle.hol_tactic_grammar.proofs.Rows.{thenl_means}
use Rattle.hol_tactic_grammar.proofs.OpenTacticLemmas.{goes-sooner, waits, chain-fails-at, chain-empty, chain-lists}
use Rattle.hol_tactic_grammar.proofs.tactic_reader.Reader.begin_list.Goals as goal

pub returns-in-Missing : goal.returns-in-Missing
returns-in-Missing c =
    let reader = c.args.self.now in
    chain-fails-at (opens_of reader) reader.room c.args.at c.args.tokens.now (expression_here c.args.first) (map joint_here c.args.links.items) c.requires.reading c.requires.front
    (λ list rest nested quotable same. c.in-Missing.ensures (omega (arith, nested)) _ same)

pub returns-in-Empty : goal.returns-in-Empty
returns-in-Empty c =
    let reader = c.args.self.now in
    let tokens = c.args.tokens.now in
    let front = c.in-Empty.ensures in
    goes-sooner c.chain_with.result reader tokens (8 * (length tokens - (c.args.at + 3)) + 4 * vec_len reader.opens + 7)
    (turns_left (readings.Chain c.args.first c.args.links c.args.at) reader tokens) (omega (arith, front.2.within))
    (c.chain_with.ensures reader tokens (λ all added. chain-empty (opens_of reader) reader.room (reader.room - 1) c.args.at (tokens_of tokens) (expression_here c.args.first)
    c.args.links.items all (Thenl c.new.result) tokens (omega (arith, front.0)) added
    (thenl_means c.new.result ∙ ap (λ (ts : List (Tac Kept)). on_each (all_expressions (map expression_here ts))) c.new.ensures.items) c.requires.reading c.requires.front front.1 front.2))

pub returns-in-Begun : goal.returns-in-Begun
returns-in-Begun c =
    let reader = c.args.self.now in
    let tokens = c.args.tokens.now in
    let front = c.in-Begun.ensures in
    waits c.wait.result (record { opens = reader.opens; room = reader.room - 1 }) c.wait.new.self (Listed c.args.first c.args.links c.new-in-Begun.result) (c.args.at + 2)
    (turns_left (readings.Chain c.args.first c.args.links c.args.at) reader tokens) tokens c.wait.ensures
    (chain-lists (opens_of reader) reader.room (reader.room - 1) c.args.at (tokens_of tokens) c.args.first c.args.links c.new-in-Begun.result tokens (omega (arith, front.0))
    c.new-in-Begun.ensures.items c.requires.reading c.requires.front front.1 front.2)
    (omega (arith, front.1.within))
