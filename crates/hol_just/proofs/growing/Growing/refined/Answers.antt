use Rattle.std.proofs.Common.{rules, refl, map, ◌-◌, subst, ap, ◌∙◌}
use Rattle.std.specs.Prelude.{IfOk, IfErr}
use Rattle.hol_model.specs.Goals.Justifications.{Justification}
use Rattle.hol_model.specs.Goals.Replays.{depth}
use Rattle.hol_just.specs.Growing.{grown_tree}
use Rattle.hol_just.specs.Steps.{tree_of, IsRefused}
use Rattle.hol_just.proofs.GrowingLemmas.{older-tree, deeper-bound, tree-of-folded, refusal-of-folded}
use Rattle.hol_just.proofs.growing.Growing.refined.Goals as goal

pub invariant_of-result : goal.invariant_of-result
invariant_of-result c = record {
  bounded = deeper-bound c.args.self.now.just c.in_ok-copy.field-0 c.in_ok-portions.portions.items c.args.self.now.portions.items c.args.portion (depth (tree_of c.args.portion.just) - 1)
      c.args.self.now.depth_bound c.in_ok-depth_bound.depth_bound (search rules) (search rules) refl c.args.self.now.bounded (search rules);
}

pub returns-then-len-le-PORTIONS_LIMIT-clause-tree : goal.returns-then-len-le-PORTIONS_LIMIT-clause-tree
returns-then-len-le-PORTIONS_LIMIT-clause-tree c =
    older-tree c.args.self.now.just c.in_ok-copy.field-0 c.in_ok-portions.portions.items c.args.self.now.portions.items c.args.portion (search rules) (search rules)

pub returns-clause-tree : goal.returns-clause-tree
returns-clause-tree c =
    tree-of-folded c.args.self.now c.deref-2.result.now c.args.portion c.folded.result (search rules) c.folded.ensures.tree

pub returns-clause-err : goal.returns-clause-err
returns-clause-err c =
    refusal-of-folded c.args.self.now c.deref-2.result.now c.args.portion c.folded.result (search rules) c.folded.ensures.err
