use Rattle.std.proofs.Common.{map, length, rules, arith, refl, ◌∙◌}
use Rattle.std.proofs.lemmas.List.{nil_from_length}
use Rattle.hol_model.specs.Goals.Splicing.{goals_of_steps, splice, portion_of}
use Rattle.hol_just.specs.Steps.{step_of, tree_of, flat_portion}
use Rattle.hol_just.proofs.Joining.{next-part, next-goals, all-parts, all-goals, is-spliced, refused-tree}
use Rattle.hol_just.proofs.splicing.spliced_step.Goals as goal

pub loop-part-preserved : goal.loop-part-preserved
loop-part-preserved c = (
  next-part c.loop-part.part-iterator.rest.items c.next.new.self.rest.items c.in-Some.part c.loop-part.joined c.add_own.new.self c.loop-part.goals.items
      c.in-Some.part.goals.items c.append.new.self.items (map flat_portion c.args.parts.items) (search rules) c.loop-part.invariant.0 (search rules) refl c.in_ok-append.ensures.items,
  next-goals c.loop-part.part-iterator.rest.items c.next.new.self.rest.items c.in-Some.part c.loop-part.goals.items c.in-Some.part.goals.items c.append.new.self.items
      (goals_of_steps (map step_of c.args.parts.items)) (search rules) c.loop-part.invariant.1 refl c.in_ok-append.ensures.items,
)

pub finished-requires : goal.finished-requires
finished-requires c =
    let none = nil_from_length c.loop-part.part-iterator.rest.items (omega (arith, c.loop-part.part-iterator.rest.ok.0, c.in-None.ensures.steps.0)) in
    (is-spliced c.args.just c.args.parts.items c.loop-part.joined (length c.loop-part.goals.items) c.in_ok-spliced.spliced c.number_at-root.result
    (all-parts c.loop-part.part-iterator.rest.items c.loop-part.joined (length c.loop-part.goals.items) (map flat_portion c.args.parts.items) none c.loop-part.invariant.0) (search rules)
    (search rules)).cited

pub returns-in-Ok-clause-goals : goal.returns-in-Ok-clause-goals
returns-in-Ok-clause-goals c =
    let none = nil_from_length c.loop-part.part-iterator.rest.items (omega (arith, c.loop-part.part-iterator.rest.ok.0, c.in-None.ensures.steps.0)) in
    all-goals c.loop-part.part-iterator.rest.items c.loop-part.goals.items (goals_of_steps (map step_of c.args.parts.items)) none c.loop-part.invariant.1

pub returns-in-Ok-clause-tree : goal.returns-in-Ok-clause-tree
returns-in-Ok-clause-tree c =
    let none = nil_from_length c.loop-part.part-iterator.rest.items (omega (arith, c.loop-part.part-iterator.rest.ok.0, c.in-None.ensures.steps.0)) in
    c.in-Ok.ensures.tree ∙ (is-spliced c.args.just c.args.parts.items c.loop-part.joined (length c.loop-part.goals.items) c.in_ok-spliced.spliced c.number_at-root.result
    (all-parts c.loop-part.part-iterator.rest.items c.loop-part.joined (length c.loop-part.goals.items) (map flat_portion c.args.parts.items) none c.loop-part.invariant.0) (search rules)
    (search rules)).tree

pub returns-in-Err-clause-err : goal.returns-in-Err-clause-err
returns-in-Err-clause-err c =
    let none = nil_from_length c.loop-part.part-iterator.rest.items (omega (arith, c.loop-part.part-iterator.rest.ok.0, c.in-None.ensures.steps.0)) in
    refused-tree (splice (tree_of c.args.just) (map (λ part. portion_of (step_of part)) c.args.parts.items)) c.in_ok-spliced.spliced.lines.items c.number_at-root.result c.in-Err.fault
    (is-spliced c.args.just c.args.parts.items c.loop-part.joined (length c.loop-part.goals.items) c.in_ok-spliced.spliced c.number_at-root.result
    (all-parts c.loop-part.part-iterator.rest.items c.loop-part.joined (length c.loop-part.goals.items) (map flat_portion c.args.parts.items) none c.loop-part.invariant.0) (search rules)
    (search rules)).tree c.in-Err.ensures.err
