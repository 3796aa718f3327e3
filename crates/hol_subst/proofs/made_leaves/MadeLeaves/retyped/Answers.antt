use Rattle.std.proofs.Common.{rules, ap}
use Rattle.hol_subst.specs.Leaves.{leaf_of}
use Rattle.hol_subst.proofs.MadeLeaves.{unchanged_by_test}
use Rattle.hol_subst.proofs.made_leaves.MadeLeaves.retyped.Goals as goal

pub returns-then-not-changes_type-clause-ok : goal.returns-then-not-changes_type-clause-ok
returns-then-not-changes_type-clause-ok c = ap (leaf_of c.args.leaf c.args.name.now) (unchanged_by_test c.args.types.now c.args.ty.now (search rules))
