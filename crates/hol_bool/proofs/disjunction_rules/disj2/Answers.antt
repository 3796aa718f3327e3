use Rattle.std.proofs.Common.{◌≡◌, IfOk, false, refl, sym, subst}
use Rattle.hol_model.specs.Terms.NamedTerm.{NamedTerm}
use Rattle.hol_model.specs.Terms.Nameless.{image}
use Rattle.hol_model.specs.Logic.NamedLogic.{disjunction}
use Rattle.hol_bool.specs.PreludeInstances.{LeadsTo, at_p_q}
use Rattle.hol_bool.specs.Disjunctions.{MakesDisjunction}
use Rattle.hol_bool.proofs.RuleAnswers.{roomy-fits}
use Rattle.hol_bool.proofs.DisjunctionAnswers.{disj2-answered, disj2-leads}
use Rattle.hol_bool.proofs.PreludeSteps.{where-no-room}
use Rattle.hol_bool.proofs.InferredRules.{infers_disj2}
use Rattle.hol_bool.proofs.FormulaLemmas.{made-formula}
use Rattle.hol_bool.proofs.Passing.{unchanged}
use Rattle.hol_bool.proofs.disjunction_rules.disj2.Goals as goal

pub returns-clause-outcome : goal.returns-clause-outcome
returns-clause-outcome c =
    let theory = c.args.recorder.now.theory in
    let premise = c.args.premise.now.theorem in
    let a = c.args.p.now in
    let b = premise.conclusion in
    let passed = c.in_ok-pass_formula.ensures.ok in
    let concluded = c.conclusion_of-q.ensures in
    let result = c.with_disjunct.result in
    let derives = subst (λ (s : NamedTerm). MakesDisjunction theory 28 a s premise result) concluded.value c.with_disjunct.ensures.derives in
    disj2-answered result theory a premise passed
    (λ room part whole. derives room
    (disj2-leads theory a b (at_p_q a b) passed.formula concluded.formula refl room (roomy-fits room (image b) part) (roomy-fits room (image (disjunction a b)) whole)))
    (subst (λ (s : NamedTerm). IfOk result (λ made. made.theorem.conclusion ≡ disjunction a s)) concluded.value c.with_disjunct.ensures.names)

pub returns-clause-inferred : goal.returns-clause-inferred
returns-clause-inferred c = infers_disj2 c.ty-type.ensures (returns-clause-outcome c)

pub with_disjunct-requires-clause-right : goal.with_disjunct-requires-clause-right
with_disjunct-requires-clause-right c =
    let concluded = c.conclusion_of-q.ensures in
    made-formula c.args.recorder.now.theory c.conclusion_of-q.result.now c.args.premise.now.theorem.conclusion concluded.value concluded.formula

pub with_disjunct-requires-clause-left : goal.with_disjunct-requires-clause-left
with_disjunct-requires-clause-left c = c.in_ok-pass_formula.ensures.ok.formula

pub with_disjunct-requires-clause-leads : goal.with_disjunct-requires-clause-leads
with_disjunct-requires-clause-leads c =
    let theory = c.args.recorder.now.theory in
    let a = c.args.p.now in
    let b = c.args.premise.now.theorem.conclusion in
    let concluded = c.conclusion_of-q.ensures in
    subst (λ (s : NamedTerm). LeadsTo theory 28 (at_p_q a s) false (image b) (image (disjunction a s))) (sym concluded.value)
    (disj2-leads theory a b (at_p_q a b) c.in_ok-pass_formula.ensures.ok.formula concluded.formula refl false (where-no-room (image b)) (where-no-room (image (disjunction a b))))

pub returns-in_err-pass_formula-clause-continues : goal.returns-in_err-pass_formula-clause-continues
returns-in_err-pass_formula-clause-continues c = unchanged c.args.recorder.now c.from_residual.result c.from_residual.ensures.0
