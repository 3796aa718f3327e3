use Rattle.std.proofs.Common.{refl}
use Rattle.hol_model.specs.Goals.Justifications as trees
use Rattle.hol_model.specs.Derived.DerivedRules.{named}
use Rattle.hol_model.specs.declared.rule.Rule.TheVariants as rules
use Rattle.hol_model.specs.Refining.Refiners.{assuming, three_parts, from_first, from_second}
use Rattle.hol_just.specs.Steps.{goal_of}
use Rattle.hol_refine.proofs.theorems.split.Goals as goal

pub returns : goal.returns
returns c =
    c.to_two.ensures (assuming (goal_of c.args.goal.now) (named c.args.left.now)) (assuming (goal_of c.args.goal.now) (named c.args.right.now))
    (trees.by_rule rules.DisjCases (three_parts (trees.named c.args.name.now) from_first from_second))
    (c.in_ok-first.ensures.ok (named c.args.left.now) (named c.args.goal.now.concl) refl refl)
    (c.in_ok-second.ensures.ok (named c.args.right.now) (named c.args.goal.now.concl) refl refl) c.in_ok-just.ensures
