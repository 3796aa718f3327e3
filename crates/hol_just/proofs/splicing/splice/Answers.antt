use Rattle.std.proofs.Common.{map, rules}
use Rattle.hol_model.specs.Goals.Splicing.{splice, portion_of}
use Rattle.hol_just.specs.Steps.{step_of, tree_of, flat_portion}
use Rattle.hol_just.proofs.Joining.{one-part, no-more-parts, is-spliced, of-tree, of-refusal, of-fewer}
use Rattle.hol_just.proofs.splicing.splice.Goals as goal

pub loop-part-preserved : goal.loop-part-preserved
loop-part-preserved c =
    one-part c.args.parts.now c.loop-part.part-index c.part-item.result c.loop-part.joined c.add.new.self c.loop-part.subgoals c.in_ok-subgoals.subgoals (map flat_portion c.args.parts.now)
    c.loop-part-test.true c.part-item.is c.loop-part.invariant (search rules) (search rules)

pub finished-requires : goal.finished-requires
finished-requires c =
    (is-spliced c.args.just.now c.args.parts.now c.loop-part.joined c.loop-part.subgoals c.in_ok-spliced.spliced c.number_at-root.result
    (no-more-parts c.args.parts.now c.loop-part.part-index c.loop-part.joined c.loop-part.subgoals (map flat_portion c.args.parts.now) c.loop-part-test.false c.loop-part.invariant)
    (search rules) (search rules)).cited

pub returns-clause-tree : goal.returns-clause-tree
returns-clause-tree c =
    of-tree (splice (tree_of c.args.just.now) (map (λ part. portion_of (step_of part)) c.args.parts.now)) c.in_ok-spliced.spliced.lines.items c.number_at-root.result c.finished.result
    (is-spliced c.args.just.now c.args.parts.now c.loop-part.joined c.loop-part.subgoals c.in_ok-spliced.spliced c.number_at-root.result
    (no-more-parts c.args.parts.now c.loop-part.part-index c.loop-part.joined c.loop-part.subgoals (map flat_portion c.args.parts.now) c.loop-part-test.false c.loop-part.invariant)
    (search rules) (search rules)).tree
    c.finished.ensures.tree

pub returns-clause-steps : goal.returns-clause-steps
returns-clause-steps c =
    of-fewer _ c.in_ok-spliced.spliced.lines.items c.finished.result
    (is-spliced c.args.just.now c.args.parts.now c.loop-part.joined c.loop-part.subgoals c.in_ok-spliced.spliced c.number_at-root.result
    (no-more-parts c.args.parts.now c.loop-part.part-index c.loop-part.joined c.loop-part.subgoals (map flat_portion c.args.parts.now) c.loop-part-test.false c.loop-part.invariant)
    (search rules) (search rules)).steps
    c.finished.ensures.steps

pub returns-clause-err : goal.returns-clause-err
returns-clause-err c =
    of-refusal (splice (tree_of c.args.just.now) (map (λ part. portion_of (step_of part)) c.args.parts.now)) c.in_ok-spliced.spliced.lines.items c.number_at-root.result c.finished.result
    (is-spliced c.args.just.now c.args.parts.now c.loop-part.joined c.loop-part.subgoals c.in_ok-spliced.spliced c.number_at-root.result
    (no-more-parts c.args.parts.now c.loop-part.part-index c.loop-part.joined c.loop-part.subgoals (map flat_portion c.args.parts.now) c.loop-part-test.false c.loop-part.invariant)
    (search rules) (search rules)).tree
    c.finished.ensures.err
