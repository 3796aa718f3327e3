use Rattle.std.proofs.Common.{refl}
use Rattle.hol_model.specs.Derived.DerivedRules.{named}
use Rattle.hol_model.specs.Refining.Refiners.{toward}
use Rattle.hol_just.specs.Steps.{goal_of}
use Rattle.hol_refine.proofs.making.to_targets.Goals as goal

pub returns : goal.returns
returns c t is =
    c.to_two.ensures (toward (goal_of c.args.goal.now) (named c.args.left.now)) (toward (goal_of c.args.goal.now) (named c.args.right.now)) t
    (c.in_ok-first.ensures.ok (named c.args.left.now) refl) (c.in_ok-second.ensures.ok (named c.args.right.now) refl) is
