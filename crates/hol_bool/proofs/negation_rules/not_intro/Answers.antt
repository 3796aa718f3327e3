use Rattle.std.proofs.Common.{◌≡◌, ◌∙◌, true, Option, Err, IfOk, false, refl, sym, ap, subst}
use Rattle.hol_model.specs.declared.fault.Fault.TheVariants.{BadShape}
use Rattle.hol_model.specs.Terms.NamedTerm.{NamedTerm}
use Rattle.hol_model.specs.Terms.Nameless.{image}
use Rattle.hol_model.specs.Logic.NamedLogic.{false_term, is_false, implication, negation}
use Rattle.hol_model.specs.Kernel.Outcome.{given, unless}
use Rattle.hol_model.specs.Derived.DerivedRules.{images, stated, not_intro_outcome}
use Rattle.hol_prelude.specs.Prelude.{p}
use Rattle.hol_equal.specs.Sequents.{DerivesIf}
use Rattle.hol_bool.specs.PreludeInstances.{LeadsTo}
use Rattle.hol_equal.proofs.CutLemmas.{shows-itself}
use Rattle.hol_bool.proofs.RoomLemmas.{negation-is}
use Rattle.hol_bool.proofs.FormulaLemmas.{false-is, negates, made-formula}
use Rattle.hol_bool.proofs.RuleAnswers.{answered-one, leads-p, roomy-fits}
use Rattle.hol_bool.proofs.InferredRules.{infers_not_intro}
use Rattle.hol_bool.proofs.PreludeSteps.{where-no-room}
use Rattle.hol_bool.proofs.Passing.{unchanged}
use Rattle.hol_equal.proofs.StepLemmas.{passed_on}
use Rattle.hol_bool.proofs.negation_rules.not_intro.Goals as goal

pub returns-in_err-stated-clause-outcome : goal.returns-in_err-stated-clause-outcome
returns-in_err-stated-clause-outcome c =
    let premise = c.args.premise.now.theorem in
    let a = c.in-Some.sides.left.now in
    let b = c.in-Some.sides.right.now in
    let false_right : is_false b ≡ true = sym c.is_named.ensures ∙ c.if-not-is_named.false in
    rw (passed_on c.from_residual.result c.in_err-stated.field-0.0 c.from_residual.ensures.1)
    (answered-one (Err c.in_err-stated.field-0.0) premise (negation a) (not_intro_outcome premise)
    (ap (λ (o : Option (NamedTerm × NamedTerm)). given o BadShape (λ sides. unless (is_false sides.1) BadShape (stated (images premise) (negation sides.0)))) (sym c.in-Some.ensures.sides)
    ∙ ap (λ test. unless test BadShape (stated (images premise) (negation a))) false_right)
    (λ room whole part. c.in_err-stated.ensures room c.in-Some.ensures.parts.left_formula.typed (roomy-fits room (image (negation a)) part)) tt)

pub returns-in_err-stated-clause-inferred : goal.returns-in_err-stated-clause-inferred
returns-in_err-stated-clause-inferred c = infers_not_intro c.requires.logic c.in-Some.ensures.legal c.in-Some.ensures.formula (returns-in_err-stated-clause-outcome c)

pub returns-clause-outcome : goal.returns-clause-outcome
returns-clause-outcome c =
    let journal = c.args.recorder.now in
    let premise = c.args.premise.now.theorem in
    let a = c.in-Some.sides.left.now in
    let b = c.in-Some.sides.right.now in
    let parts = c.in-Some.ensures.parts in
    let terms = c.deref.result.now in
    let false_right : is_false b ≡ true = sym c.is_named.ensures ∙ c.if-not-is_named.false in
    let right_is = false-is journal c.args.logic.now c.requires.logic c.theory_is_legal.ensures b parts.right_formula false_right in
    let premise_is : image premise.conclusion ≡ image (implication a false_term) = ap image parts.is ∙ ap (λ (t : NamedTerm). image (implication a t)) right_is in
    let stated_is = negation-is c.in_ok-stated.stated a parts.left_formula.typed c.in_ok-stated.ensures in
    answered-one c.by_leading_theorem.result premise (negation a) (not_intro_outcome premise)
    (ap (λ (o : Option (NamedTerm × NamedTerm)). given o BadShape (λ sides. unless (is_false sides.1) BadShape (stated (images premise) (negation sides.0)))) (sym c.in-Some.ensures.sides)
    ∙ ap (λ test. unless test BadShape (stated (images premise) (negation a))) false_right)
    (λ room whole part.
    subst (λ (s : NamedTerm). LeadsTo journal.theory 22 terms room (image premise.conclusion) (image s) → DerivesIf room c.by_leading_theorem.result (images premise) (image s)) stated_is
    (λ leads. c.by_leading_theorem.ensures.derives (images premise) (image premise.conclusion) room leads (shows-itself premise))
    (leads-p journal.theory 22 (implication p false_term) (negation p) a terms refl refl parts.left_formula
    (c.deref.ensures.value ∙ c.in_ok-terms.ensures.ok) room (image premise.conclusion) (image (negation a)) premise_is refl
    (roomy-fits room (image premise.conclusion) whole) (roomy-fits room (image (negation a)) part)))
    (subst (λ (s : NamedTerm). IfOk c.by_leading_theorem.result (λ made. made.theorem.conclusion ≡ s)) stated_is c.by_leading_theorem.ensures.names)

pub returns-clause-inferred : goal.returns-clause-inferred
returns-clause-inferred c = infers_not_intro c.requires.logic c.in-Some.ensures.legal c.in-Some.ensures.formula (returns-clause-outcome c)

pub by_leading_theorem-requires-clause-leads : goal.by_leading_theorem-requires-clause-leads
by_leading_theorem-requires-clause-leads c =
    let journal = c.args.recorder.now in
    let premise = c.args.premise.now.theorem in
    let a = c.in-Some.sides.left.now in
    let b = c.in-Some.sides.right.now in
    let parts = c.in-Some.ensures.parts in
    let terms = c.deref.result.now in
    let false_right : is_false b ≡ true = sym c.is_named.ensures ∙ c.if-not-is_named.false in
    let right_is = false-is journal c.args.logic.now c.requires.logic c.theory_is_legal.ensures b parts.right_formula false_right in
    let premise_is : image premise.conclusion ≡ image (implication a false_term) = ap image parts.is ∙ ap (λ (t : NamedTerm). image (implication a t)) right_is in
    subst (λ (s : NamedTerm). LeadsTo journal.theory 22 terms false (image premise.conclusion) (image s))
    (sym (negation-is c.in_ok-stated.stated a parts.left_formula.typed c.in_ok-stated.ensures))
    (leads-p journal.theory 22 (implication p false_term) (negation p) a terms refl refl parts.left_formula
    (c.deref.ensures.value ∙ c.in_ok-terms.ensures.ok) false (image premise.conclusion) (image (negation a)) premise_is refl
    (where-no-room (image premise.conclusion)) (where-no-room (image (negation a))))

pub by_leading_theorem-requires-clause-stated : goal.by_leading_theorem-requires-clause-stated
by_leading_theorem-requires-clause-stated c =
    let journal = c.args.recorder.now in
    let a = c.in-Some.sides.left.now in
    let parts = c.in-Some.ensures.parts in
    let stated_is = negation-is c.in_ok-stated.stated a parts.left_formula.typed c.in_ok-stated.ensures in
    made-formula journal.theory c.in_ok-stated.stated (negation a) stated_is (negates journal c.args.logic.now c.requires.logic c.theory_is_legal.ensures a parts.left_formula)

pub returns-in_err-stated-clause-continues : goal.returns-in_err-stated-clause-continues
returns-in_err-stated-clause-continues c = unchanged c.args.recorder.now c.from_residual.result c.from_residual.ensures.0

pub returns-in_err-terms-clause-continues : goal.returns-in_err-terms-clause-continues
returns-in_err-terms-clause-continues c = unchanged c.args.recorder.now c.from_residual-in_err-terms.result c.from_residual-in_err-terms.ensures.0
