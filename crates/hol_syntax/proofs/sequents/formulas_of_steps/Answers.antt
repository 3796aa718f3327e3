use Rattle.std.proofs.Common.{◌≡◌, ◌∷◌, suc, drop, inl, inr, ⊎_elim, ap, sym, ◌∙◌, add-one, arith}
use Rattle.std.proofs.lemmas.Result.{err_from_is_err_and}
use Rattle.hol_model.specs.Texts.SequentGrammar.{formulas_meaning}
use Rattle.hol_syntax.specs.Scope.{scope_of}
use Rattle.hol_syntax_grammar.specs.Steps.{flat_steps_of}
use Rattle.hol_syntax_grammar.specs.TermSteps.{flat_steps, term_steps}
use Rattle.hol_syntax.proofs.Formulas.{behind, behind_none, steps_at, made_one, refused_one, made_all}
use Rattle.hol_syntax.proofs.sequents.formulas_of_steps.Goals as goal

pub loop-steps-init : goal.loop-steps-init
loop-steps-init c = λ trees h.
    behind_none (formulas_meaning (scope_of c.args.scope.now) trees) ∙ ap (λ l. behind l (formulas_meaning (scope_of c.args.scope.now) trees)) (sym c.new-terms.ensures.items)

pub returns-in_err-term : goal.returns-in_err-term
returns-in_err-term c = λ trees h.
    let scope = scope_of c.args.scope.now in
    let terms = c.loop-steps.terms.items in
    let at = steps_at c.args.parsed.now trees c.loop-steps.steps-index c.steps-item.result h (omega arith) in
    let steps : flat_steps_of c.deref.result.now ≡ flat_steps (term_steps at.tree) = ap flat_steps_of (c.deref.ensures.value ∙ ap (λ v. v.items) c.steps-item.is) ∙ at.steps_are in
    let rest = drop (suc c.loop-steps.steps-index) trees in
    let all : formulas_meaning scope trees ≡ behind terms (formulas_meaning scope (at.tree ∷ rest)) =
    c.loop-steps.invariant trees h ∙ ap (λ l. behind terms (formulas_meaning scope l)) at.left in
    let p = err_from_is_err_and c.from_residual.result c.from_residual.ensures.1 in
    rw (p.1, p.2)
    (⊎_elim (λ m. inl m) (λ e. inr (all ∙ e)) (refused_one scope terms c.in_err-term.field-0.0 at.tree rest (c.in_err-term.ensures at.tree steps)))

pub loop-steps-preserved : goal.loop-steps-preserved
loop-steps-preserved c = λ trees h.
    let scope = scope_of c.args.scope.now in
    let terms = c.loop-steps.terms.items in
    let at = steps_at c.args.parsed.now trees c.loop-steps.steps-index c.steps-item.result h (omega arith) in
    let steps : flat_steps_of c.deref.result.now ≡ flat_steps (term_steps at.tree) = ap flat_steps_of (c.deref.ensures.value ∙ ap (λ v. v.items) c.steps-item.is) ∙ at.steps_are in
    let rest = drop (suc c.loop-steps.steps-index) trees in
    c.loop-steps.invariant trees h ∙ ap (λ l. behind terms (formulas_meaning scope l)) at.left
    ∙ made_one scope terms c.in_ok-term.term at.tree rest (c.in_ok-term.ensures at.tree steps)
    ∙ ap (λ l. behind l (formulas_meaning scope rest)) (sym c.in_ok-push.ensures.items)
    ∙ ap (λ k. behind c.push.new.self.items (formulas_meaning scope (drop k trees))) (sym (add-one c.loop-steps.steps-index))

pub returns : goal.returns
returns c = λ trees h.
    c.loop-steps.invariant trees h
    ∙ made_all (scope_of c.args.scope.now) c.loop-steps.terms.items c.args.parsed.now trees c.loop-steps.steps-index h c.loop-steps-test.false
