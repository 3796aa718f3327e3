use Rattle.std.proofs.Common.{refl, arith}
use Rattle.std.proofs.lemmas.Map.Text.{text_keys}
use Rattle.hol_syntax.proofs.scope.Scope.set_const.Goals as goal

pub returns-clause-ok : goal.returns-clause-ok
returns-clause-ok c = record { constants = λ other. grind (arith, text_keys); variables = λ other. refl; types = λ other. refl }
