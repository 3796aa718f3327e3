use Rattle.std.proofs.Common.{arith}
use Rattle.std.proofs.lemmas.Map.Text.{text_keys}
use Rattle.hol_syntax.specs.Scope.{scope_of}
use Rattle.hol_syntax.proofs.Starting.{started}
use Rattle.hol_syntax.proofs.scope.Scope.new.Goals as goal

pub returns-clause-ok : goal.returns-clause-ok
returns-clause-ok c =
    started (scope_of (record { constants = c.new.result; variables = c.new-2.result; types = c.new-3.result })) (scope_of c.set_const.new.self) (scope_of c.set_const-2.new.self)
    c.in_ok-equality_of_a.field-0 c.in_ok-choice_of_a.field-0 (λ name. grind (arith, text_keys)) (λ name. grind (arith, text_keys)) (λ name. grind (arith, text_keys))
    c.in_ok-set_const.ensures.ok c.in_ok-set_const-2.ensures.ok c.in_ok-equality_of_a.ensures.ok c.in_ok-choice_of_a.ensures.ok
