use Rattle.std.proofs.Common.{ap, rules, map}
use Rattle.hol_model.specs.Goals.Justifications as justified
use Rattle.hol_just.specs.declared.line.Line.TheVariants.{ByRule}
use Rattle.hol_just.specs.Flat.{flat_rule}
use Rattle.hol_just.specs.Steps.{parts_of, tree_of}
use Rattle.hol_just.proofs.Joining.{is-stepped, of-tree, of-refusal, of-steps}
use Rattle.hol_just.proofs.making.step.Goals as goal

pub finished-requires : goal.finished-requires
finished-requires c =
    (is-stepped c.args.rule c.args.parts.now c.in_ok-lines.field-0 (ByRule c.in_ok-new.field-0 c.in_ok-lines.field-0.roots) c.push.new.self.items c.len-root.result c.in_ok-lines.ensures.ok
    (ap (λ rule. flat_rule rule c.in_ok-lines.field-0.roots.items) {x = c.in_ok-new.field-0.value} {y = c.args.rule} (search rules)) (search rules) (search rules)).cited

pub returns-clause-tree : goal.returns-clause-tree
returns-clause-tree c =
    of-tree (justified.by_rule c.args.rule (parts_of (map tree_of c.args.parts.now))) c.push.new.self.items c.len-root.result c.finished.result
    (is-stepped c.args.rule c.args.parts.now c.in_ok-lines.field-0 (ByRule c.in_ok-new.field-0 c.in_ok-lines.field-0.roots) c.push.new.self.items c.len-root.result c.in_ok-lines.ensures.ok
    (ap (λ rule. flat_rule rule c.in_ok-lines.field-0.roots.items) {x = c.in_ok-new.field-0.value} {y = c.args.rule} (search rules)) (search rules) (search rules)).tree
    c.finished.ensures.tree

pub returns-clause-steps : goal.returns-clause-steps
returns-clause-steps c =
    of-steps _ c.push.new.self.items c.finished.result
    (is-stepped c.args.rule c.args.parts.now c.in_ok-lines.field-0 (ByRule c.in_ok-new.field-0 c.in_ok-lines.field-0.roots) c.push.new.self.items c.len-root.result c.in_ok-lines.ensures.ok
    (ap (λ rule. flat_rule rule c.in_ok-lines.field-0.roots.items) {x = c.in_ok-new.field-0.value} {y = c.args.rule} (search rules)) (search rules) (search rules)).steps
    c.finished.ensures.steps

pub returns-clause-err : goal.returns-clause-err
returns-clause-err c =
    of-refusal (justified.by_rule c.args.rule (parts_of (map tree_of c.args.parts.now))) c.push.new.self.items c.len-root.result c.finished.result
    (is-stepped c.args.rule c.args.parts.now c.in_ok-lines.field-0 (ByRule c.in_ok-new.field-0 c.in_ok-lines.field-0.roots) c.push.new.self.items c.len-root.result c.in_ok-lines.ensures.ok
    (ap (λ rule. flat_rule rule c.in_ok-lines.field-0.roots.items) {x = c.in_ok-new.field-0.value} {y = c.args.rule} (search rules)) (search rules) (search rules)).tree
    c.finished.ensures.err
