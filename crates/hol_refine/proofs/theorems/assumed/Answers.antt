use Rattle.std.proofs.Common.{refl}
use Rattle.hol_model.specs.Goals.Justifications as trees
use Rattle.hol_model.specs.Derived.DerivedRules.{named}
use Rattle.hol_model.specs.declared.rule.Rule.TheVariants as rules
use Rattle.hol_model.specs.Refining.Refiners.{two_parts, from_first}
use Rattle.hol_refine.proofs.theorems.assumed.Goals as goal

pub returns : goal.returns
returns c =
    let theorem = trees.named c.args.name.now in
    c.to_assuming.ensures (named c.args.conclusion.now) (trees.by_rule rules.ProveHyp (two_parts theorem from_first)) refl
    (c.in_ok-just.ensures theorem from_first c.stored_theorem.ensures c.subgoal.ensures refl refl)
