use Rattle.std.proofs.Common.{Option, ◌∙◌, false, refl, sym, ap}
use Rattle.hol_model.specs.declared.fault.Fault.TheVariants.{BadShape}
use Rattle.hol_model.specs.Terms.NamedTerm.{NamedTerm}
use Rattle.hol_model.specs.Terms.Nameless.{image}
use Rattle.hol_model.specs.Logic.NamedLogic.{conjunction}
use Rattle.hol_model.specs.Kernel.Outcome.{given}
use Rattle.hol_model.specs.Derived.DerivedRules.{stated, images, conjunct2_outcome}
use Rattle.hol_prelude.specs.Prelude.{p, q}
use Rattle.hol_equal.proofs.CutLemmas.{shows-itself}
use Rattle.hol_bool.proofs.RuleAnswers.{answered-one, leads-p_q, roomy-fits}
use Rattle.hol_bool.proofs.InferredRules.{infers_conjunct2}
use Rattle.hol_bool.proofs.PreludeSteps.{where-no-room}
use Rattle.hol_bool.proofs.Passing.{unchanged}
use Rattle.hol_bool.proofs.conjunction_rules.conjunct2.Goals as goal

pub returns-clause-outcome : goal.returns-clause-outcome
returns-clause-outcome c =
    let theory = c.args.recorder.now.theory in
    let premise = c.args.premise.now.theorem in
    let a = c.in-Some.sides.left.now in
    let b = c.in-Some.sides.right.now in
    let parts = c.in-Some.ensures.parts in
    answered-one c.by_leading_theorem.result premise c.in-Some.sides.right.now (conjunct2_outcome premise)
    (ap (λ (o : Option (NamedTerm × NamedTerm)). given o BadShape (λ sides. stated (images premise) sides.1)) (sym c.in-Some.ensures.sides))
    (λ room whole part. c.by_leading_theorem.ensures.derives (images premise) (image premise.conclusion) room
    (leads-p_q theory 14 (conjunction p q) q a b c.deref.result.now refl refl parts.left_formula parts.right_formula
    (c.deref.ensures.value ∙ c.in_ok-terms.ensures.ok) room (image premise.conclusion) (image c.in-Some.sides.right.now) (ap image parts.is) refl
    (roomy-fits room (image premise.conclusion) whole) (roomy-fits room (image c.in-Some.sides.right.now) part))
    (shows-itself premise))
    c.by_leading_theorem.ensures.names

pub returns-clause-inferred : goal.returns-clause-inferred
returns-clause-inferred c = infers_conjunct2 c.requires.logic c.in-Some.ensures.legal c.in-Some.ensures.formula (returns-clause-outcome c)

pub by_leading_theorem-requires-clause-leads : goal.by_leading_theorem-requires-clause-leads
by_leading_theorem-requires-clause-leads c =
    let premise = c.args.premise.now.theorem in
    let a = c.in-Some.sides.left.now in
    let b = c.in-Some.sides.right.now in
    let parts = c.in-Some.ensures.parts in
    leads-p_q c.args.recorder.now.theory 14 (conjunction p q) q a b c.deref.result.now refl refl parts.left_formula parts.right_formula
    (c.deref.ensures.value ∙ c.in_ok-terms.ensures.ok) false (image premise.conclusion) (image b) (ap image parts.is) refl
    (where-no-room (image premise.conclusion)) (where-no-room (image b))

pub by_leading_theorem-requires-clause-stated : goal.by_leading_theorem-requires-clause-stated
by_leading_theorem-requires-clause-stated c =
    c.in-Some.ensures.parts.right_formula

pub returns-in_err-terms-clause-continues : goal.returns-in_err-terms-clause-continues
returns-in_err-terms-clause-continues c = unchanged c.args.recorder.now c.from_residual.result c.from_residual.ensures.0
