use Rattle.std.proofs.Common.{arith}
use Rattle.std.proofs.lemmas.Map.Text.{text_keys}
use Rattle.hol_syntax_print.proofs.innermost.Innermost.set.Goals as goal

pub returns-clause-new : goal.returns-clause-new
returns-clause-new c = λ other. grind (arith, text_keys)
