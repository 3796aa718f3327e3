use Rattle.std.proofs.Common.{arith}
use Rattle.hol_syntax_grammar.proofs.Lexing.{too_large}
use Rattle.hol_syntax_grammar.proofs.lexer.is_within_limit.Goals as goal

pub returns-then-value-from : goal.returns-then-value-from
returns-then-value-from c =
    too_large c.args.digits.now c.loop-digit.digit-index c.loop-digit.value c.loop-digit.invariant.rest (omega arith)
    (omega (arith, c.if-value-from.true, c.from.ensures, c.from-in-loop-digit.ensures, c.saturating_sub.ensures))
