use Rattle.std.proofs.Common.{refl}
use Rattle.hol_model.specs.Goals.Justifications.{by_rule}
use Rattle.hol_model.specs.declared.rule.Rule.TheVariants as rules
use Rattle.hol_model.specs.Refining.Refiners.{one_part, from_first, from_second}
use Rattle.hol_refine.proofs.implications.by_both_ways.Goals as goal

pub returns : goal.returns
returns c =
    c.from_two.ensures (by_rule rules.Undisch (one_part from_second)) (by_rule rules.Undisch (one_part from_first))
    (c.from_one.ensures from_second c.subgoal.ensures refl) (c.from_one-2.ensures from_first c.subgoal-2.ensures refl) refl refl
