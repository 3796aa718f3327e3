use Rattle.std.proofs.Common.{◌∙◌}
use Rattle.std.proofs.lemmas.Result.{IfOk-weaker}
use Rattle.hol_taut_formulas.proofs.FalsityLemmas.{found-first, none-false}
use Rattle.hol_taut_formulas.proofs.falsity_test.first_falsity.Goals as goal

pub returns-then-holds_of_itself-clause-ok : goal.returns-then-holds_of_itself-clause-ok
returns-then-holds_of_itself-clause-ok c = none-false c.args.formula.now c.args.count (c.holds_of_itself.ensures c.if-holds_of_itself.true)

pub returns-clause-ok : goal.returns-clause-ok
returns-clause-ok c = IfOk-weaker c.first_false.result _ _ (λ found same. same ∙ found-first c.args.formula.now c.args.count) c.first_false.ensures.ok
