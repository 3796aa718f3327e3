use Rattle.std.proofs.Common.{◌≡◌, IfOk, false, refl, sym, subst}
use Rattle.hol_model.specs.Terms.NamedTerm.{NamedTerm}
use Rattle.hol_model.specs.Terms.Nameless.{image}
use Rattle.hol_model.specs.Logic.NamedLogic.{disjunction}
use Rattle.hol_bool.specs.PreludeInstances.{LeadsTo, at_p_q}
use Rattle.hol_bool.specs.Disjunctions.{MakesDisjunction}
use Rattle.hol_bool.proofs.RuleAnswers.{roomy-fits}
use Rattle.hol_bool.proofs.DisjunctionAnswers.{disj1-answered, disj1-leads}
use Rattle.hol_bool.proofs.PreludeSteps.{where-no-room}
use Rattle.hol_bool.proofs.InferredRules.{infers_disj1}
use Rattle.hol_bool.proofs.FormulaLemmas.{made-formula}
use Rattle.hol_bool.proofs.Passing.{unchanged}
use Rattle.hol_bool.proofs.disjunction_rules.disj1.Goals as goal

pub returns-clause-outcome : goal.returns-clause-outcome
returns-clause-outcome c =
    let theory = c.args.recorder.now.theory in
    let premise = c.args.premise.now.theorem in
    let a = premise.conclusion in
    let b = c.args.q.now in
    let passed = c.in_ok-pass_formula.ensures.ok in
    let concluded = c.conclusion_of-p.ensures in
    let result = c.with_disjunct.result in
    let derives = subst (λ (s : NamedTerm). MakesDisjunction theory 27 s b premise result) concluded.value c.with_disjunct.ensures.derives in
    disj1-answered result theory b premise passed
    (λ room part whole. derives room
    (disj1-leads theory a b (at_p_q a b) concluded.formula passed.formula refl room (roomy-fits room (image a) part) (roomy-fits room (image (disjunction a b)) whole)))
    (subst (λ (s : NamedTerm). IfOk result (λ made. made.theorem.conclusion ≡ disjunction s b)) concluded.value c.with_disjunct.ensures.names)

pub returns-clause-inferred : goal.returns-clause-inferred
returns-clause-inferred c = infers_disj1 c.ty-type.ensures (returns-clause-outcome c)

pub with_disjunct-requires-clause-left : goal.with_disjunct-requires-clause-left
with_disjunct-requires-clause-left c =
    let concluded = c.conclusion_of-p.ensures in
    made-formula c.args.recorder.now.theory c.conclusion_of-p.result.now c.args.premise.now.theorem.conclusion concluded.value concluded.formula

pub with_disjunct-requires-clause-right : goal.with_disjunct-requires-clause-right
with_disjunct-requires-clause-right c = c.in_ok-pass_formula.ensures.ok.formula

pub with_disjunct-requires-clause-leads : goal.with_disjunct-requires-clause-leads
with_disjunct-requires-clause-leads c =
    let theory = c.args.recorder.now.theory in
    let a = c.args.premise.now.theorem.conclusion in
    let b = c.args.q.now in
    let concluded = c.conclusion_of-p.ensures in
    subst (λ (s : NamedTerm). LeadsTo theory 27 (at_p_q s b) false (image a) (image (disjunction s b))) (sym concluded.value)
    (disj1-leads theory a b (at_p_q a b) concluded.formula c.in_ok-pass_formula.ensures.ok.formula refl false (where-no-room (image a)) (where-no-room (image (disjunction a b))))

pub returns-in_err-pass_formula-clause-continues : goal.returns-in_err-pass_formula-clause-continues
returns-in_err-pass_formula-clause-continues c = unchanged c.args.recorder.now c.from_residual.result c.from_residual.ensures.0
