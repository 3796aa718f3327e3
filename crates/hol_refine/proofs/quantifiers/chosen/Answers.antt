use Rattle.std.proofs.Common.{◌∷◌, []}
use Rattle.std.proofs.lemmas.Result.{err_from_is_err_and}
use Rattle.hol_model.specs.Terms.NamedTerm.{variable}
use Rattle.hol_model.specs.Terms.Measures.{nameless_within_limits}
use Rattle.hol_model.specs.Derived.DerivedRules.{body_with}
use Rattle.hol_model.specs.declared.rule.Rule.TheVariants as rules
use Rattle.hol_model.specs.Goals.Justifications as trees
use Rattle.hol_model.specs.Rewrites.RenamedBody.{renamed_body}
use Rattle.hol_model.specs.Refining.Refiners.{assuming, two_parts, from_first}
use Rattle.hol_just.specs.Steps.{goal_of}
use Rattle.hol_refine.specs.TableAnswers.{step_in, abstracted}
use Rattle.hol_refine.proofs.Fitting.{fitting, unfitting}
use Rattle.hol_refine.proofs.quantifiers.chosen.Goals as goal

pub returns-in_err-instance : goal.returns-in_err-instance
returns-in_err-instance c =
    let p = err_from_is_err_and c.from_residual.result c.from_residual.ensures.1 in
    let at = abstracted c.args.parts.name.now c.args.parts.ty.now c.args.parts.body.now in
    let tree = trees.by_rule (rules.Choose (variable c.args.fresh.now c.args.parts.ty.now)) (two_parts (trees.named c.args.theorem.now) from_first) in
    rw (p.1, p.2)
    (unfitting (nameless_within_limits (body_with at (variable c.args.fresh.now c.args.parts.ty.now)))
    (record { goals = assuming (goal_of c.args.goal.now) (renamed_body at c.args.fresh.now) ∷ []; justification = tree }) c.in_err-instance.field-0.0 c.in_err-instance.ensures)

pub returns : goal.returns
returns c =
    let at = abstracted c.args.parts.name.now c.args.parts.ty.now c.args.parts.body.now in
    let tree = trees.by_rule (rules.Choose (variable c.args.fresh.now c.args.parts.ty.now)) (two_parts (trees.named c.args.theorem.now) from_first) in
    fitting (nameless_within_limits (body_with at (variable c.args.fresh.now c.args.parts.ty.now)))
    (record { goals = assuming (goal_of c.args.goal.now) (renamed_body at c.args.fresh.now) ∷ []; justification = tree }) (step_in c.to_assuming.result)
    c.in_ok-instance.ensures.0 (c.to_assuming.ensures (renamed_body at c.args.fresh.now) tree c.in_ok-instance.ensures.1 c.in_ok-just.ensures)
