use Rattle.std.proofs.Common.{◌∷◌, [], refl, subst}
use Rattle.hol_model.specs.Terms.NamedTerm.{NamedTerm}
use Rattle.hol_model.specs.Terms.Nameless.{image}
use Rattle.hol_model.specs.Terms.Measures.{nameless_within_limits}
use Rattle.hol_model.specs.Logic.NamedLogic.{implication}
use Rattle.hol_model.specs.Derived.DerivedRules.{named}
use Rattle.hol_model.specs.declared.rule.Rule.TheVariants as rules
use Rattle.hol_model.specs.Goals.Justifications as trees
use Rattle.hol_model.specs.Refining.Refiners.{toward, two_parts, from_first, leaves}
use Rattle.hol_just.specs.Steps.{goal_of}
use Rattle.hol_refine.specs.TableAnswers.{AnswersStep, step_in}
use Rattle.hol_refine.proofs.Fitting.{fitting}
use Rattle.hol_refine.proofs.implications.implied.Goals as goal

pub returns : goal.returns
returns c p_typed q_typed =
    let tree = trees.by_rule rules.Mp (two_parts from_first (trees.named c.args.name.now)) in
    let whole = implication c.args.conclusion.now c.args.goal.now.concl in
    fitting (nameless_within_limits (image whole)) (record { goals = toward (goal_of c.args.goal.now) (named whole) ∷ []; justification = tree }) (step_in c.to_target.result)
    (c.in_ok-implication.ensures p_typed q_typed).0
    (subst (λ (t : NamedTerm). AnswersStep (leaves (toward (goal_of c.args.goal.now) (named t) ∷ []) tree) (step_in c.to_target.result)) (c.in_ok-implication.ensures p_typed q_typed).1
    (c.to_target.ensures tree (c.in_ok-just.ensures from_first (trees.named c.args.name.now) c.subgoal.ensures c.stored_theorem.ensures refl refl)))
