use Rattle.std.proofs.Common.{◌≡◌, ◌≤◌, drop}
use Rattle.hol_model.specs.declared.limits.TheConstants.{NUMBER_LIMIT}
use Rattle.hol_model.specs.Texts.Lexing.{digits_value, numeral_value}
use Rattle.hol_syntax_grammar.proofs.lexer.is_within_limit.Given as goal

abbrev pub invariant-loop-digit : goal.invariant-loop-digit
invariant-loop-digit l = record {
  rest : digits_value l.value (drop l.digit-index l.digits) ≡ numeral_value l.digits;
  within : l.value ≤ NUMBER_LIMIT;
}
