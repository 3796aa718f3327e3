use Rattle.std.proofs.Common.{◌+◌, ◌*◌, ◌-◌, ◌∷◌, length, ap, ◌∙◌, arith, vec_len}
use Rattle.hol_syntax_grammar.specs.Views.{tokens_of}
use Rattle.hol_tactic_grammar.specs.declared.tactic_reader.Open.{Open}
use Rattle.hol_tactic_grammar.specs.declared.tactic_reader.Open.TheVariants.{Choice}
use Rattle.hol_tactic_grammar.specs.Tokens.{behind}
use Rattle.hol_tactic_grammar.specs.Expressions.{expression_here}
use Rattle.hol_tactic_grammar.specs.Tactics.{with_prefix}
use Rattle.hol_tactic_grammar.specs.OpenTactics.{opens_of}
use Rattle.hol_tactic_grammar.proofs.OpenTacticLemmas.{goes-sooner, unit-in, unit-prefixed, made-goes, unit-begins}
use Rattle.hol_tactic_grammar.proofs.tactic_reader.Reader.take_unit.Goals as goal

pub returns-then-begins_choice : goal.returns-then-begins_choice
returns-then-begins_choice c = λ tokens has.
    let reader = c.args.self.now in (
      unit-begins (opens_of reader) reader.room (tokens_of tokens) (behind c.args.next tokens) (expression_here c.args.unit) c.new.result.items c.new.ensures.items c.if-begins_choice.ensures has,
      omega arith,
    )

pub returns-in-Some-Prefixed : goal.returns-in-Some-Prefixed
returns-in-Some-Prefixed c = λ tokens has.
    let old = c.args.self.now in
    let mid = c.close.new.self in
    let prefix = c.in-Some-Prefixed.prefix in
    let closed = c.in-Some-Prefixed.ensures in
    made-goes c.prefixed.result c.unit_made.result c.args.next (8 * (length tokens - c.args.next) + 4 * vec_len old.opens + 4) (record { opens = mid.opens; room = mid.room + 1 }) tokens
    (with_prefix prefix (expression_here c.args.unit)) c.unit_made.ensures c.prefixed.ensures
    (unit-prefixed prefix (opens_of old) (opens_of mid) old.room mid.room (tokens_of tokens) (behind c.args.next tokens) (expression_here c.args.unit)
    (closed.0 ∙ ap (λ (o : Open). o ∷ opens_of mid) c.in-Some-Prefixed.field-0-is) closed.1 has)
    (omega (arith, closed.2))

pub returns-in-Some-Choice : goal.returns-in-Some-Choice
returns-in-Some-Choice c = λ tokens has.
    let old = c.args.self.now in
    let mid = c.close.new.self in
    let closed = c.in-Some-Choice.ensures in
    goes-sooner c.choice_with.result mid tokens (8 * (length tokens - c.args.next) + 4 * vec_len mid.opens + 8) (8 * (length tokens - c.args.next) + 4 * vec_len old.opens + 4)
    (omega (arith, closed.2))
    (c.choice_with.ensures mid tokens (unit-in (opens_of old) (opens_of mid) (Choice c.in-Some-Choice.first c.in-Some-Choice.others) old.room mid.room (tokens_of tokens)
    (behind c.args.next tokens) (expression_here c.args.unit) (closed.0 ∙ ap (λ (o : Open). o ∷ opens_of mid) c.in-Some-Choice.field-0-is) closed.1 has))
