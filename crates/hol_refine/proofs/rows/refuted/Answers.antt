use Rattle.std.proofs.Common.{◌∷◌, [], subst, refl}
use Rattle.hol_model.specs.Goals.Justifications.{by_rule}
use Rattle.hol_model.specs.Terms.NamedTerm.{NamedTerm}
use Rattle.hol_model.specs.Derived.DerivedRules.{named}
use Rattle.hol_model.specs.declared.rule.Rule.TheVariants as rules
use Rattle.hol_model.specs.Refining.Refiners.{one_part, from_first, from_assumptions, leaves}
use Rattle.hol_refine.specs.TableAnswers.{AnswersStep, step_in}
use Rattle.hol_refine.proofs.rows.refuted.Goals as goal

pub returns : goal.returns
returns c =
    let discharged = by_rule (rules.Disch c.args.p.now) (one_part from_first) in
    let tree = by_rule rules.NotIntro (one_part discharged) in
    subst (λ (f : NamedTerm). AnswersStep (leaves (from_assumptions c.args.goal.now.asms.items (named c.args.p.now ∷ []) (named f) ∷ []) tree) (step_in c.to_assuming.result))
    c.in_ok-falsity.ensures.ok
    (c.to_assuming.ensures (named c.args.p.now) tree refl (c.in_ok-just.ensures discharged c.by_disch.ensures refl))
