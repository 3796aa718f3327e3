use Rattle.std.proofs.Common.{◌≡◌, ◌∙◌, ◌∷◌, [], List, ap, refl, subst}
use Rattle.hol_model.specs.Terms.NamedTerm.{NamedTerm}
use Rattle.hol_model.specs.Terms.Nameless.{image}
use Rattle.hol_model.specs.Terms.Measures.{nameless_within_limits}
use Rattle.hol_model.specs.Logic.NamedLogic.{implication}
use Rattle.hol_model.specs.Derived.DerivedRules.{named}
use Rattle.hol_model.specs.declared.rule.Rule.TheVariants as rules
use Rattle.hol_model.specs.Kernel.Theorem.{without_hypothesis}
use Rattle.hol_model.specs.Goals.Justifications.{by_rule}
use Rattle.hol_model.specs.Refining.Refiners.{from_assumptions, one_part, from_first}
use Rattle.hol_refine.specs.TableAnswers.{IsGoal, step_in}
use Rattle.hol_refine.proofs.Goals.{with_target}
use Rattle.hol_refine.proofs.Fitting.{fitting}
use Rattle.hol_refine.proofs.implications.undischarged.Goals as goal

pub returns : goal.returns
returns c p_typed q_typed =
    let tree = by_rule rules.Undisch (one_part from_first) in
    let whole = implication c.args.p.now c.args.goal.now.concl in
    let others = without_hypothesis c.args.p.now c.args.goal.now.asms.items in
    let left : c.in_ok-asms.asms.items ≡ others = c.in_ok-asms.ensures.ok ∙ ap (without_hypothesis c.args.p.now) c.deref.ensures.value in
    fitting (nameless_within_limits (image whole)) (record { goals = from_assumptions others [] (named whole) ∷ []; justification = tree }) (step_in c.to_one.result)
    (c.in_ok-implication.ensures p_typed q_typed).0
    (c.to_one.ensures (from_assumptions others [] (named whole)) tree
    (subst (λ (a : List NamedTerm). IsGoal (from_assumptions a [] (named whole)) (record { assumptions = c.in_ok-asms.asms.items; target = c.in_ok-implication.implication })) left
    (with_target c.in_ok-asms.asms.items c.in_ok-implication.implication (named whole) (c.in_ok-implication.ensures p_typed q_typed).1))
    (c.in_ok-just.ensures from_first c.subgoal.ensures refl))
