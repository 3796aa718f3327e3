use Rattle.std.proofs.Common.{◌≡◌, drop}
use Rattle.hol_model.specs.Texts.Lexing.{digits_value, numeral_value}
use Rattle.hol_script_commands.proofs.goals.number_of.Given as goal

abbrev pub invariant-loop-digit : goal.invariant-loop-digit
invariant-loop-digit l = digits_value l.value (drop l.digit-index l.digits) ≡ numeral_value l.digits
