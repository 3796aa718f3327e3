use Rattle.std.proofs.Common.{◌≡◌, map, take}
use Rattle.hol_rewrite.specs.RuleSides.{side_of_rule}
use Rattle.hol_rewrite.proofs.left_sides.choice_of.Given as goal

abbrev pub invariant-loop-rule : goal.invariant-loop-rule
invariant-loop-rule l = l.choice ≡ map (λ rule. side_of_rule rule.theorem) (take l.rule-index l.rules)
