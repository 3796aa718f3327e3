use Rattle.std.proofs.Common.{refl}
use Rattle.hol_model.specs.Goals.Justifications.{by_rule}
use Rattle.hol_model.specs.declared.rule.Rule.TheVariants as rules
use Rattle.hol_model.specs.Refining.Refiners.{two_parts, from_first, from_second}
use Rattle.hol_refine.proofs.rows.both.Goals as goal

pub returns : goal.returns
returns c =
    c.to_targets.ensures (by_rule rules.Conj (two_parts from_first from_second)) (c.in_ok-just.ensures from_first from_second c.subgoal.ensures c.subgoal-2.ensures refl refl)
