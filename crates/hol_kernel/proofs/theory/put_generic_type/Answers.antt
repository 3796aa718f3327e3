use Rattle.std.proofs.Common.{arith}
use Rattle.std.proofs.lemmas.Map.Text.{text_keys}
use Rattle.hol_kernel.proofs.theory.put_generic_type.Goals as goal

pub returns-clause-ok : goal.returns-clause-ok
returns-clause-ok c = λ other. grind (arith, text_keys)
