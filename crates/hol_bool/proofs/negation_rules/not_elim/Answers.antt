use Rattle.std.proofs.Common.{◌≡◌, ◌∙◌, Option, Err, IfOk, false, refl, sym, ap, subst}
use Rattle.hol_model.specs.declared.fault.Fault.TheVariants.{BadShape}
use Rattle.hol_model.specs.Terms.NamedTerm.{NamedTerm}
use Rattle.hol_model.specs.Terms.Nameless.{image}
use Rattle.hol_model.specs.Logic.Logic.{implies_name}
use Rattle.hol_model.specs.Logic.NamedLogic.{false_term, implication, negation}
use Rattle.hol_model.specs.Kernel.Outcome.{given}
use Rattle.hol_model.specs.Derived.DerivedRules.{images, stated, not_elim_outcome}
use Rattle.hol_prelude.specs.Prelude.{p}
use Rattle.hol_equal.specs.Sequents.{DerivesIf}
use Rattle.hol_bool.specs.PreludeInstances.{LeadsTo}
use Rattle.hol_equal.proofs.CutLemmas.{shows-itself}
use Rattle.hol_bool.proofs.RoomLemmas.{connected-is, connected-past}
use Rattle.hol_bool.proofs.RuleAnswers.{answered-one, leads-p, roomy-fits}
use Rattle.hol_bool.proofs.InferredRules.{infers_not_elim}
use Rattle.hol_bool.proofs.PreludeSteps.{where-no-room}
use Rattle.hol_bool.proofs.FormulaLemmas.{connects, falsity_is_formula, made-formula}
use Rattle.hol_bool.proofs.Passing.{unchanged}
use Rattle.hol_equal.proofs.StepLemmas.{passed_on}
use Rattle.hol_bool.proofs.negation_rules.not_elim.Goals as goal

pub returns-in_err-stated-clause-outcome : goal.returns-in_err-stated-clause-outcome
returns-in_err-stated-clause-outcome c =
    let premise = c.args.premise.now.theorem in
    let a = c.in-Some.part.now in
    rw (passed_on c.from_residual-in_err-stated.result c.in_err-stated.field-0.0 c.from_residual-in_err-stated.ensures.1)
    (answered-one (Err c.in_err-stated.field-0.0) premise (implication a false_term) (not_elim_outcome premise)
    (ap (λ (o : Option NamedTerm). given o BadShape (λ part. stated (images premise) (implication part false_term))) (sym c.in-Some.ensures.found))
    (λ room whole part. connected-past c.in_err-stated.field-0.0 implies_name a false_term a c.in_ok-falsity.falsity c.in-Some.ensures.part.formula.typed refl
    refl c.in_ok-falsity.ensures.ok c.in_err-stated.ensures room
    (roomy-fits room (image (implication a false_term)) part)) tt)

pub returns-in_err-stated-clause-inferred : goal.returns-in_err-stated-clause-inferred
returns-in_err-stated-clause-inferred c = infers_not_elim c.requires.logic c.in-Some.ensures.legal c.in-Some.ensures.formula (returns-in_err-stated-clause-outcome c)

pub returns-clause-outcome : goal.returns-clause-outcome
returns-clause-outcome c =
    let theory = c.args.recorder.now.theory in
    let premise = c.args.premise.now.theorem in
    let a = c.in-Some.part.now in
    let negated = c.in-Some.ensures.part in
    let terms = c.deref.result.now in
    let stated_is = connected-is c.in_ok-stated.stated implies_name a false_term a c.in_ok-falsity.falsity negated.formula.typed refl refl c.in_ok-falsity.ensures.ok c.in_ok-stated.ensures in
    answered-one c.by_leading_theorem.result premise (implication a false_term) (not_elim_outcome premise)
    (ap (λ (o : Option NamedTerm). given o BadShape (λ part. stated (images premise) (implication part false_term))) (sym c.in-Some.ensures.found))
    (λ room whole part.
    subst (λ (s : NamedTerm). LeadsTo theory 23 terms room (image premise.conclusion) (image s) → DerivesIf room c.by_leading_theorem.result (images premise) (image s)) stated_is
    (λ leads. c.by_leading_theorem.ensures.derives (images premise) (image premise.conclusion) room leads (shows-itself premise))
    (leads-p theory 23 (negation p) (implication p false_term) a terms refl refl negated.formula
    (c.deref.ensures.value ∙ c.in_ok-terms.ensures.ok) room (image premise.conclusion) (image (implication a false_term))
    (ap image negated.is) refl
    (roomy-fits room (image premise.conclusion) whole) (roomy-fits room (image (implication a false_term)) part)))
    (subst (λ (s : NamedTerm). IfOk c.by_leading_theorem.result (λ made. made.theorem.conclusion ≡ s)) stated_is c.by_leading_theorem.ensures.names)

pub returns-clause-inferred : goal.returns-clause-inferred
returns-clause-inferred c = infers_not_elim c.requires.logic c.in-Some.ensures.legal c.in-Some.ensures.formula (returns-clause-outcome c)

pub by_leading_theorem-requires-clause-leads : goal.by_leading_theorem-requires-clause-leads
by_leading_theorem-requires-clause-leads c =
    let theory = c.args.recorder.now.theory in
    let premise = c.args.premise.now.theorem in
    let a = c.in-Some.part.now in
    let negated = c.in-Some.ensures.part in
    let terms = c.deref.result.now in
    subst (λ (s : NamedTerm). LeadsTo theory 23 terms false (image premise.conclusion) (image s))
    (sym (connected-is c.in_ok-stated.stated implies_name a false_term a c.in_ok-falsity.falsity negated.formula.typed refl refl c.in_ok-falsity.ensures.ok c.in_ok-stated.ensures))
    (leads-p theory 23 (negation p) (implication p false_term) a terms refl refl negated.formula
    (c.deref.ensures.value ∙ c.in_ok-terms.ensures.ok) false (image premise.conclusion) (image (implication a false_term))
    (ap image negated.is) refl (where-no-room (image premise.conclusion)) (where-no-room (image (implication a false_term))))

pub by_leading_theorem-requires-clause-stated : goal.by_leading_theorem-requires-clause-stated
by_leading_theorem-requires-clause-stated c =
    let journal = c.args.recorder.now in
    let a = c.in-Some.part.now in
    let negated = c.in-Some.ensures.part in
    let stated_is = connected-is c.in_ok-stated.stated implies_name a false_term a c.in_ok-falsity.falsity negated.formula.typed refl refl c.in_ok-falsity.ensures.ok c.in_ok-stated.ensures in
    made-formula journal.theory c.in_ok-stated.stated (implication a false_term) stated_is
    (connects journal c.args.logic.now c.requires.logic c.in-Some.ensures.legal implies_name refl a false_term negated.formula
    (falsity_is_formula journal c.args.logic.now c.requires.logic c.in-Some.ensures.legal))

pub returns-in_err-falsity-clause-continues : goal.returns-in_err-falsity-clause-continues
returns-in_err-falsity-clause-continues c = unchanged c.args.recorder.now c.from_residual.result c.from_residual.ensures.0

pub returns-in_err-stated-clause-continues : goal.returns-in_err-stated-clause-continues
returns-in_err-stated-clause-continues c = unchanged c.args.recorder.now c.from_residual-in_err-stated.result c.from_residual-in_err-stated.ensures.0

pub returns-in_err-terms-clause-continues : goal.returns-in_err-terms-clause-continues
returns-in_err-terms-clause-continues c = unchanged c.args.recorder.now c.from_residual-in_err-terms.result c.from_residual-in_err-terms.ensures.0
