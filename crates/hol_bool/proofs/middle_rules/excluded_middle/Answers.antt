use Rattle.std.proofs.Common.{◌≡◌, ◌∙◌, [], ◌∷◌, Err, IfOk, false, refl, sym, subst, inl, inr}
use Rattle.hol_model.specs.Terms.NamedTerm.{NamedTerm}
use Rattle.hol_model.specs.Terms.Nameless.{const, app, image}
use Rattle.hol_model.specs.Logic.Logic.{or_name, binary}
use Rattle.hol_model.specs.Logic.NamedLogic.{disjunction, negation}
use Rattle.hol_model.specs.Derived.DerivedRules.{stated, excluded_middle_outcome}
use Rattle.hol_prelude.specs.Prelude.{middle}
use Rattle.hol_equal.specs.Sequents.{DerivesIf}
use Rattle.hol_bool.specs.PreludeInstances.{Concludes, Says}
use Rattle.hol_bool.proofs.RoomLemmas.{negation-is, negation-typed, connected-is, connected-past, fits-argument}
use Rattle.hol_bool.proofs.RuleAnswers.{answered, says-p, roomy-fits}
use Rattle.hol_bool.proofs.PreludeSteps.{says-concludes, where-no-room}
use Rattle.hol_bool.proofs.FormulaLemmas.{connects, negates, made-formula}
use Rattle.hol_equal.proofs.StepLemmas.{passed_on}
use Rattle.hol_bool.proofs.middle_rules.excluded_middle.Goals as goal

pub returns-in_err-negated-clause-outcome : goal.returns-in_err-negated-clause-outcome
returns-in_err-negated-clause-outcome c =
    let theory = c.args.recorder.now.theory in
    let a = c.args.p.now in
    let passed = c.in_ok-pass_formula.ensures.ok in
    let whole = disjunction a (negation a) in
    let outcome : excluded_middle_outcome theory a ≡ stated [] whole = rw (passed.is_formula, passed.is_known) refl in
    rw (passed_on c.from_residual-in_err-negated.result c.in_err-negated.field-0.0 c.from_residual-in_err-negated.ensures.1)
    (answered (Err c.in_err-negated.field-0.0) (image a ∷ []) [] [] whole (excluded_middle_outcome theory a) outcome (record { to = λ x m. m; back = λ x m. m })
    (λ room roomy. c.in_err-negated.ensures room passed.formula.typed
    (fits-argument room (app (const or_name binary) (image a)) (image (negation a)) (roomy-fits room (image whole) (roomy (image whole) (inr (inl refl)))))) tt)

pub returns-in_err-stated-clause-outcome : goal.returns-in_err-stated-clause-outcome
returns-in_err-stated-clause-outcome c =
    let theory = c.args.recorder.now.theory in
    let a = c.args.p.now in
    let passed = c.in_ok-pass_formula.ensures.ok in
    let typed = passed.formula.typed in
    let whole = disjunction a (negation a) in
    let outcome : excluded_middle_outcome theory a ≡ stated [] whole = rw (passed.is_formula, passed.is_known) refl in
    let negated_is = negation-is c.in_ok-negated.negated a typed c.in_ok-negated.ensures in
    rw (passed_on c.from_residual-in_err-stated.result c.in_err-stated.field-0.0 c.from_residual-in_err-stated.ensures.1)
    (answered (Err c.in_err-stated.field-0.0) (image a ∷ []) [] [] whole (excluded_middle_outcome theory a) outcome (record { to = λ x m. m; back = λ x m. m })
    (λ room roomy. connected-past c.in_err-stated.field-0.0 or_name a (negation a) a c.in_ok-negated.negated typed (negation-typed a typed) refl negated_is c.in_err-stated.ensures room
    (roomy-fits room (image whole) (roomy (image whole) (inr (inl refl))))) tt)

pub returns-clause-outcome : goal.returns-clause-outcome
returns-clause-outcome c =
    let theory = c.args.recorder.now.theory in
    let a = c.args.p.now in
    let passed = c.in_ok-pass_formula.ensures.ok in
    let typed = passed.formula.typed in
    let whole = disjunction a (negation a) in
    let terms = c.deref.result.now in
    let result = c.instance_of_theorem.result in
    let outcome : excluded_middle_outcome theory a ≡ stated [] whole = rw (passed.is_formula, passed.is_known) refl in
    let negated_is = negation-is c.in_ok-negated.negated a typed c.in_ok-negated.ensures in
    let stated_is = connected-is c.in_ok-stated.stated or_name a (negation a) a c.in_ok-negated.negated typed (negation-typed a typed) refl negated_is c.in_ok-stated.ensures in
    answered result (image a ∷ []) [] [] whole (excluded_middle_outcome theory a) outcome (record { to = λ x m. m; back = λ x m. m })
    (λ room roomy.
    subst (λ (s : NamedTerm). Says theory 34 terms room (image s) → DerivesIf room result [] (image s)) stated_is (c.instance_of_theorem.ensures.says room)
    (says-p theory 34 middle a terms refl refl passed.formula (c.deref.ensures.value ∙ c.in_ok-terms.ensures.ok) room (image whole) refl
    (roomy-fits room (image whole) (roomy (image whole) (inr (inl refl))))))
    (subst (λ (s : NamedTerm). IfOk result (λ made. made.theorem.conclusion ≡ s)) stated_is c.instance_of_theorem.ensures.names)

pub instance_of_theorem-requires-clause-concludes : goal.instance_of_theorem-requires-clause-concludes
instance_of_theorem-requires-clause-concludes c =
    let theory = c.args.recorder.now.theory in
    let a = c.args.p.now in
    let formula = c.in_ok-pass_formula.ensures.ok.formula in
    let typed = formula.typed in
    let whole = disjunction a (negation a) in
    let terms = c.deref.result.now in
    let negated_is = negation-is c.in_ok-negated.negated a typed c.in_ok-negated.ensures in
    let stated_is = connected-is c.in_ok-stated.stated or_name a (negation a) a c.in_ok-negated.negated typed (negation-typed a typed) refl negated_is c.in_ok-stated.ensures in
    subst (λ (s : NamedTerm). Concludes theory 34 terms (image s)) (sym stated_is)
    (says-concludes theory 34 terms false (image whole)
    (says-p theory 34 middle a terms refl refl formula (c.deref.ensures.value ∙ c.in_ok-terms.ensures.ok) false (image whole) refl (where-no-room (image whole))))

pub instance_of_theorem-requires-clause-stated : goal.instance_of_theorem-requires-clause-stated
instance_of_theorem-requires-clause-stated c =
    let journal = c.args.recorder.now in
    let a = c.args.p.now in
    let formula = c.in_ok-pass_formula.ensures.ok.formula in
    let typed = formula.typed in
    let legal = c.theory_is_legal.ensures in
    let negated_is = negation-is c.in_ok-negated.negated a typed c.in_ok-negated.ensures in
    let stated_is = connected-is c.in_ok-stated.stated or_name a (negation a) a c.in_ok-negated.negated typed (negation-typed a typed) refl negated_is c.in_ok-stated.ensures in
    made-formula journal.theory c.in_ok-stated.stated (disjunction a (negation a)) stated_is
    (connects journal c.args.logic.now c.requires.logic legal or_name refl a (negation a) formula (negates journal c.args.logic.now c.requires.logic legal a formula))
