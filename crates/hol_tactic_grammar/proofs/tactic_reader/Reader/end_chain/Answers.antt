use Rattle.std.proofs.Common.{◌+◌, ◌*◌, ◌-◌, List, ◌∷◌, length, ap, ◌∙◌, subst, arith, vec_len}
use Rattle.hol_syntax_grammar.specs.Views.{tokens_of}
use Rattle.hol_tactic_grammar.specs.declared.tactic_reader.Open.{Open}
use Rattle.hol_tactic_grammar.specs.declared.tactic_reader.Open.TheVariants.{Enclosed, Listed}
use Rattle.hol_tactic_grammar.specs.Tokens.{behind}
use Rattle.hol_tactic_grammar.specs.Expressions.{expression_here}
use Rattle.hol_tactic_grammar.specs.OpenTactics.{HasWhole, opens_of}
use Rattle.hol_tactic_grammar.proofs.OpenTacticLemmas.{goes-sooner, whole-in, whole-goes-on-behind, whole-is-all}
use Rattle.hol_tactic_grammar.proofs.tactic_reader.Reader.end_chain.Goals as goal

pub end_parenthesis-requires : goal.end_parenthesis-requires
end_parenthesis-requires c =
    let old = c.args.self.now in
    let mid = c.close.new.self in
    let closed = c.in-Some-Enclosed.ensures in
    whole-in (opens_of old) (opens_of mid) Enclosed old.room mid.room (tokens_of c.args.tokens.now) (behind c.args.next c.args.tokens.now) (expression_here c.args.tactic)
    (closed.0 ∙ ap (λ (o : Open). o ∷ opens_of mid) c.in-Some-Enclosed.field-0-is) closed.1 c.requires

pub returns-in-Some-Enclosed : goal.returns-in-Some-Enclosed
returns-in-Some-Enclosed c =
    let tokens = c.args.tokens.now in
    goes-sooner c.end_parenthesis.result c.end_parenthesis.new.self tokens (8 * (length tokens - c.args.next) + 4 * vec_len c.close.new.self.opens + 2)
    (8 * (length tokens - c.args.next) + 4 * vec_len c.args.self.now.opens + 2) (omega (arith, c.in-Some-Enclosed.ensures.2)) c.end_parenthesis.ensures

pub take_element-requires : goal.take_element-requires
take_element-requires c =
    let old = c.args.self.now in
    let mid = c.close.new.self in
    let closed = c.in-Some-Listed.ensures in
    let place : Open = Listed c.in-Some-Listed.first c.in-Some-Listed.links c.in-Some-Listed.each in
    whole-in (opens_of old) (opens_of mid) place old.room mid.room (tokens_of c.args.tokens.now) (behind c.args.next c.args.tokens.now) (expression_here c.args.tactic)
    (closed.0 ∙ ap (λ (o : Open). o ∷ opens_of mid) c.in-Some-Listed.field-0-is) closed.1 c.requires

pub returns-in-Some-Listed : goal.returns-in-Some-Listed
returns-in-Some-Listed c =
    let tokens = c.args.tokens.now in
    goes-sooner c.take_element.result c.take_element.new.self tokens (8 * (length tokens - c.args.next) + 4 * vec_len c.close.new.self.opens + 2)
    (8 * (length tokens - c.args.next) + 4 * vec_len c.args.self.now.opens + 2) (omega (arith, c.in-Some-Listed.ensures.2)) c.take_element.ensures

pub returns-then-next-tokens : goal.returns-then-next-tokens
returns-then-next-tokens c =
    let old = c.args.self.now in
    let tokens = c.args.tokens.now in
    whole-goes-on-behind old.room c.args.next tokens (expression_here c.args.tactic)
    (subst (λ (os : List Open). HasWhole os old.room (tokens_of tokens) (behind c.args.next tokens) (expression_here c.args.tactic)) c.in-None.ensures.0 c.requires) c.if-next-tokens.true

pub returns-else-next-tokens : goal.returns-else-next-tokens
returns-else-next-tokens c =
    let old = c.args.self.now in
    let tokens = c.args.tokens.now in (
      whole-is-all old.room c.args.next tokens c.args.tactic
          (subst (λ (os : List Open). HasWhole os old.room (tokens_of tokens) (behind c.args.next tokens) (expression_here c.args.tactic)) c.in-None.ensures.0 c.requires) c.if-next-tokens.false,
      omega arith,
    )
