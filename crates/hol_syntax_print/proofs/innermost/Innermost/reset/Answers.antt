use Rattle.std.proofs.Common.{arith}
use Rattle.std.proofs.lemmas.Map.Text.{text_keys}
use Rattle.hol_syntax_print.proofs.innermost.Innermost.reset.Goals as goal

pub returns-in-None : goal.returns-in-None
returns-in-None c = record { new = λ other. grind (arith, text_keys) }
