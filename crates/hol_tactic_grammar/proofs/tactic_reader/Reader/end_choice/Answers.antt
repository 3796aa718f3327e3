use Rattle.std.proofs.Common.{◌+◌, ◌*◌, ◌-◌, ◌∷◌, length, ap, ◌∙◌, arith, vec_len}
use Rattle.hol_syntax_grammar.specs.Views.{tokens_of}
use Rattle.hol_tactic_grammar.specs.declared.tactic_reader.Open.{Open}
use Rattle.hol_tactic_grammar.specs.declared.tactic_reader.Open.TheVariants.{Chain}
use Rattle.hol_tactic_grammar.specs.Tokens.{behind}
use Rattle.hol_tactic_grammar.specs.Expressions.{expression_here}
use Rattle.hol_tactic_grammar.specs.OpenTactics.{opens_of}
use Rattle.hol_tactic_grammar.proofs.OpenTacticLemmas.{goes-sooner, choice-in, choice-joins, choice-begins-chain}
use Rattle.hol_tactic_grammar.proofs.tactic_reader.Reader.end_choice.Goals as goal

pub returns-then-begins_chain : goal.returns-then-begins_chain
returns-then-begins_chain c = λ tokens has.
    let reader = c.args.self.now in (
      choice-begins-chain (opens_of reader) reader.room (tokens_of tokens) (behind c.args.next tokens) (expression_here c.args.choice) c.new.result.items c.new.ensures.items
          c.if-begins_chain.ensures has,
      omega arith,
    )

pub returns : goal.returns
returns c = λ tokens has.
    let old = c.args.self.now in
    let mid = c.close.new.self in
    let closed = c.in-Some-Chain.ensures in
    goes-sooner c.chain_with.result mid tokens (8 * (length tokens - c.args.next) + 4 * vec_len mid.opens + 7) (8 * (length tokens - c.args.next) + 4 * vec_len old.opens + 3)
    (omega (arith, closed.2))
    (c.chain_with.ensures mid tokens (λ all added. choice-joins (opens_of mid) mid.room (tokens_of tokens) (behind c.args.next tokens) c.in-Some-Chain.first c.args.choice
    c.in-Some-Chain.links all added
    (choice-in (opens_of old) (opens_of mid) (Chain c.in-Some-Chain.first c.in-Some-Chain.links) old.room mid.room (tokens_of tokens) (behind c.args.next tokens)
    (expression_here c.args.choice) (closed.0 ∙ ap (λ (o : Open). o ∷ opens_of mid) c.in-Some-Chain.field-0-is) closed.1 has)))
