use Rattle.std.proofs.Common.{inl, inr, Some, refl, sym, ap, ◌∙◌, subst}
use Rattle.std.proofs.lemmas.Result.{err_from_is_err_and}
use Rattle.hol_model.specs.Terms.NamedTerm.{combination}
use Rattle.hol_model.specs.Kernel.Outcome.{Answers}
use Rattle.hol_model.specs.Kernel.Constructors.{combination_outcome}
use Rattle.hol_terms.proofs.Equations.{equality-made, equation-is, equation-refused, combination-made}
use Rattle.hol_terms.proofs.equation.mk_eq.Goals as goal

pub returns-in_err-applied : goal.returns-in_err-applied
returns-in_err-applied c =
    let p = err_from_is_err_and c.from_residual-in_err-applied.result c.from_residual-in_err-applied.ensures.1 in
    let operator = equality-made c.ty-ty.result.now c.in_ok-shared_boolean.field-0 c.in_ok-predicate.predicate c.in_ok-relation.relation c.in_ok-equality.equality
    c.in_ok-shared_boolean.ensures.outcome c.in_ok-predicate.ensures.outcome c.in_ok-relation.ensures.outcome c.in_ok-equality.ensures.outcome in
    let typed = c.ty.ensures ∙ ap (λ t. Some t) (sym (c.if-not-eq.ensures.same.0 refl)) in
    record {
      outcome = rw (p.1, p.2) (elim c.in_err-applied.ensures.outcome [
        | inl memory ↦ inl memory
        | inr refused ↦ inr (equation-refused c.args.left.now c.args.right.now c.ty-ty.result.now _ c.ty-ty.ensures typed (ap (λ f. combination_outcome f c.args.left.now) (sym operator) ∙ refused))
      ]);
    }

pub returns : goal.returns
returns c =
    let operator = equality-made c.ty-ty.result.now c.in_ok-shared_boolean.field-0 c.in_ok-predicate.predicate c.in_ok-relation.relation c.in_ok-equality.equality
    c.in_ok-shared_boolean.ensures.outcome c.in_ok-predicate.ensures.outcome c.in_ok-relation.ensures.outcome c.in_ok-equality.ensures.outcome in
    let made = combination-made c.in_ok-equality.equality c.args.left.now c.in_ok-applied.applied c.in_ok-applied.ensures.outcome in
    record {
      outcome = subst (λ w. Answers c.mk_comb-2.result w)
          (ap (λ f. combination_outcome f c.args.right.now) (made ∙ ap (λ f. combination f c.args.left.now) operator) ∙ equation-is c.args.left.now c.args.right.now c.ty-ty.result.now c.ty-ty.ensures)
          c.mk_comb-2.ensures.outcome;
    }
