use Rattle.std.proofs.Common.{map, rules}
use Rattle.hol_just.specs.Portions.{refined_in_turn, portion_of}
use Rattle.hol_just.specs.Steps.{tree_of}
use Rattle.hol_just.proofs.Joining.{of-tree, of-refusal}
use Rattle.hol_just.proofs.GrowingLemmas.{is-refined}
use Rattle.hol_just.proofs.front.refined_in_turn.Goals as goal

pub finished-requires : goal.finished-requires
finished-requires c =
    (is-refined c.args.just.now c.args.portions.now c.in_ok-front.front c.in_ok-lines.lines c.number_at-root.result (search rules) (search rules) (search rules)).cited

pub returns-clause-tree : goal.returns-clause-tree
returns-clause-tree c =
    of-tree (refined_in_turn (map portion_of c.args.portions.now) (tree_of c.args.just.now)) c.in_ok-lines.lines.lines.items c.number_at-root.result c.finished.result
    (is-refined c.args.just.now c.args.portions.now c.in_ok-front.front c.in_ok-lines.lines c.number_at-root.result (search rules) (search rules) (search rules)).tree
    c.finished.ensures.tree

pub returns-clause-err : goal.returns-clause-err
returns-clause-err c =
    of-refusal (refined_in_turn (map portion_of c.args.portions.now) (tree_of c.args.just.now)) c.in_ok-lines.lines.lines.items c.number_at-root.result c.finished.result
    (is-refined c.args.just.now c.args.portions.now c.in_ok-front.front c.in_ok-lines.lines c.number_at-root.result (search rules) (search rules) (search rules)).tree
    c.finished.ensures.err
