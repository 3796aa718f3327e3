use Rattle.std.proofs.Common.{refl}
use Rattle.hol_model.specs.Goals.Justifications.{by_rule}
use Rattle.hol_model.specs.Refining.Refiners.{one_part, from_first}
use Rattle.hol_refine.proofs.rows.to_side.Goals as goal

pub returns : goal.returns
returns c = c.to_target.ensures (by_rule c.args.rule (one_part from_first)) (c.in_ok-just.ensures from_first c.subgoal.ensures refl)
