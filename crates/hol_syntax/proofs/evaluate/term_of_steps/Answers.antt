use Rattle.std.proofs.Common.{◌≡◌, [], ◌∷◌, Ok, sym, ap, ◌∙◌, reverse}
use Rattle.std.proofs.lemmas.Result.{err_from_is_err_and}
use Rattle.hol_syntax.specs.Scope.{scope_of}
use Rattle.hol_syntax_grammar.specs.Steps.{flat_step_of}
use Rattle.hol_syntax_grammar.specs.TermSteps.{term_steps}
use Rattle.hol_syntax.proofs.TermEvaluation.{begun, goes_on, refused, ended, step_at, all_taken}
use Rattle.hol_syntax.proofs.evaluate.term_of_steps.Goals as goal

pub loop-step-init : goal.loop-step-init
loop-step-init c = λ whole e. (whole, e, begun (scope_of c.args.scope.now) _ whole c.new.ensures c.new-2.ensures.items)

pub loop-step-preserved : goal.loop-step-preserved
loop-step-preserved c = λ whole e.
    let under = c.loop-step.invariant whole e in
    goes_on (scope_of c.args.scope.now) c.loop-step.evaluator c.take_step.new.self (flat_step_of c.step-item.result) _ under.0 whole c.in_ok-take_step.field-0 c.in_ok-take_step.ensures
    (sym (step_at c.args.steps.now c.loop-step.step-index c.step-item.result c.loop-step-test.true c.step-item.is) ∙ under.1) under.2

pub returns-in_err-take_step : goal.returns-in_err-take_step
returns-in_err-take_step c = λ tree e.
    let under = c.loop-step.invariant (term_steps tree) e in
    let p = err_from_is_err_and c.from_residual.result c.from_residual.ensures.1 in
    rw (p.1, p.2)
    (refused (scope_of c.args.scope.now) c.loop-step.evaluator c.take_step.new.self (flat_step_of c.step-item.result) _ under.0 tree c.in_err-take_step.field-0.0 c.in_err-take_step.ensures
    (sym (step_at c.args.steps.now c.loop-step.step-index c.step-item.result c.loop-step-test.true c.step-item.is) ∙ under.1) under.2)

pub returns-in-Some : goal.returns-in-Some
returns-in-Some c = λ tree e.
    let under = c.loop-step.invariant (term_steps tree) e in
    let end = ended (scope_of c.args.scope.now) c.loop-step.evaluator under.0 tree (sym (all_taken c.args.steps.now c.loop-step.step-index c.loop-step-test.false) ∙ under.1) under.2 in
    let alone : c.in-Some.term ∷ reverse c.pop_term.new.stack.items ≡ end.0 ∷ [] = sym c.in-Some.ensures ∙ end.2 in
    let same : end.0 ≡ c.in-Some.term = cc in
    end.1 ∙ ap (λ t. Ok t) same

pub returns : goal.returns
returns c = λ tree e.
    let under = c.loop-step.invariant (term_steps tree) e in
    let end = ended (scope_of c.args.scope.now) c.loop-step.evaluator under.0 tree (sym (all_taken c.args.steps.now c.loop-step.step-index c.loop-step-test.false) ∙ under.1) under.2 in
    absurd (let bad : [] ≡ end.0 ∷ [] = sym c.in-None.ensures ∙ end.2 in cc)
