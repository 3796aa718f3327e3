use Rattle.std.proofs.Common.{◌≡◌, ◌∙◌, true, Option, false, refl, sym, ap}
use Rattle.hol_model.specs.declared.fault.Fault.TheVariants.{BadShape}
use Rattle.hol_model.specs.Terms.NamedTerm.{NamedTerm, equation}
use Rattle.hol_model.specs.Terms.Nameless.{image}
use Rattle.hol_model.specs.Logic.NamedLogic.{true_term, is_true}
use Rattle.hol_model.specs.Kernel.Outcome.{given, unless}
use Rattle.hol_model.specs.Kernel.Rules.{dest_equation}
use Rattle.hol_model.specs.Derived.DerivedRules.{images, stated, eqt_elim_outcome}
use Rattle.hol_prelude.specs.Prelude.{p}
use Rattle.hol_equal.proofs.CutLemmas.{shows-itself}
use Rattle.hol_bool.proofs.FormulaLemmas.{sides_as, truth-equation}
use Rattle.hol_bool.proofs.RuleAnswers.{answered-one, leads-p, roomy-fits}
use Rattle.hol_bool.proofs.InferredRules.{infers_eqt_elim}
use Rattle.hol_bool.proofs.PreludeSteps.{where-no-room}
use Rattle.hol_bool.proofs.Passing.{unchanged}
use Rattle.hol_bool.proofs.truth_rules.eqt_elim.Goals as goal

pub returns-clause-outcome : goal.returns-clause-outcome
returns-clause-outcome c =
    let journal = c.args.recorder.now in
    let premise = c.args.premise.now.theorem in
    let concluded = c.conclusion_of-conclusion.ensures in
    let a = c.in-Some.parts.left.now in
    let b = c.in-Some.parts.right.now in
    let dest : sides_as a b ≡ dest_equation premise.conclusion = c.in-Some.ensures.sides ∙ ap dest_equation concluded.value in
    let true_right : is_true b ≡ true = sym c.is_named.ensures ∙ c.if-not-is_named.false in
    let parts = truth-equation journal c.args.logic.now c.requires.logic concluded.legal premise concluded.theorem concluded.formula a b (sym dest) true_right in
    answered-one c.by_leading_theorem.result premise a (eqt_elim_outcome premise)
    (ap (λ (o : Option (NamedTerm × NamedTerm)). given o BadShape (λ sides. unless (is_true sides.1) BadShape (stated (images premise) sides.0))) (sym dest)
    ∙ ap (λ test. unless test BadShape (stated (images premise) a)) true_right)
    (λ room whole part. c.by_leading_theorem.ensures.derives (images premise) (image premise.conclusion) room
    (leads-p journal.theory 10 (equation p true_term) p a c.deref.result.now refl refl parts.formula
    (c.deref.ensures.value ∙ c.in_ok-terms.ensures.ok) room (image premise.conclusion) (image a) parts.image_is refl
    (roomy-fits room (image premise.conclusion) whole) (roomy-fits room (image a) part))
    (shows-itself premise))
    c.by_leading_theorem.ensures.names

pub returns-clause-inferred : goal.returns-clause-inferred
returns-clause-inferred c = infers_eqt_elim c.requires.logic c.conclusion_of-conclusion.ensures.legal c.conclusion_of-conclusion.ensures.formula (returns-clause-outcome c)

pub by_leading_theorem-requires-clause-leads : goal.by_leading_theorem-requires-clause-leads
by_leading_theorem-requires-clause-leads c =
    let journal = c.args.recorder.now in
    let premise = c.args.premise.now.theorem in
    let concluded = c.conclusion_of-conclusion.ensures in
    let a = c.in-Some.parts.left.now in
    let b = c.in-Some.parts.right.now in
    let dest : sides_as a b ≡ dest_equation premise.conclusion = c.in-Some.ensures.sides ∙ ap dest_equation concluded.value in
    let true_right : is_true b ≡ true = sym c.is_named.ensures ∙ c.if-not-is_named.false in
    let parts = truth-equation journal c.args.logic.now c.requires.logic concluded.legal premise concluded.theorem concluded.formula a b (sym dest) true_right in
    leads-p journal.theory 10 (equation p true_term) p a c.deref.result.now refl refl parts.formula
    (c.deref.ensures.value ∙ c.in_ok-terms.ensures.ok) false (image premise.conclusion) (image a) parts.image_is refl
    (where-no-room (image premise.conclusion)) (where-no-room (image a))

pub by_leading_theorem-requires-clause-stated : goal.by_leading_theorem-requires-clause-stated
by_leading_theorem-requires-clause-stated c =
    let journal = c.args.recorder.now in
    let premise = c.args.premise.now.theorem in
    let concluded = c.conclusion_of-conclusion.ensures in
    let a = c.in-Some.parts.left.now in
    let b = c.in-Some.parts.right.now in
    let dest : sides_as a b ≡ dest_equation premise.conclusion = c.in-Some.ensures.sides ∙ ap dest_equation concluded.value in
    let true_right : is_true b ≡ true = sym c.is_named.ensures ∙ c.if-not-is_named.false in
    (truth-equation journal c.args.logic.now c.requires.logic concluded.legal premise concluded.theorem concluded.formula a b (sym dest) true_right).formula

pub returns-in_err-terms-clause-continues : goal.returns-in_err-terms-clause-continues
returns-in_err-terms-clause-continues c = unchanged c.args.recorder.now c.from_residual.result c.from_residual.ensures.0
