use Rattle.std.proofs.Common.{inl, sym, ◌∙◌, subst, ⊎_elim}
use Rattle.std.proofs.lemmas.Result.{err_from_is_err_and}
use Rattle.hol_model.specs.Terms.NamedTerm.{combination}
use Rattle.hol_model.specs.Texts.Reading.{well_typed}
use Rattle.hol_model.specs.Kernel.Outcome.{Answers}
use Rattle.hol_syntax.proofs.Making.{made, combination_made, joined_refused, truth_typed}
use Rattle.hol_syntax.proofs.builder.join_truths.Goals as goal

pub returns-in_err-applied : goal.returns-in_err-applied
returns-in_err-applied c =
    let left = truth_typed c.args.left.now _ c.ty.ensures (sym c.is_bool.ensures ∙ c.if-not-is_bool.false) in
    let right = truth_typed c.args.right.now _ c.ty-else-not-is_bool.ensures (sym c.is_bool-else-not-is_bool.ensures ∙ c.if-not-is_bool-2.false) in
    let p = err_from_is_err_and c.from_residual.result c.from_residual.ensures.1 in
    rw (p.1, p.2) (⊎_elim (λ memory. inl memory) (joined_refused c.args.operator.now c.args.left.now c.args.right.now _ c.requires left right) c.in_err-applied.ensures.outcome)

pub returns : goal.returns
returns c =
    let is = combination_made c.args.operator.now c.args.left.now c.in_ok-applied.applied c.in_ok-applied.ensures.outcome in
    subst (λ f. Answers c.mk_comb-2.result (well_typed (combination f c.args.right.now))) is
    (made c.mk_comb-2.result (combination c.in_ok-applied.applied c.args.right.now) c.mk_comb-2.ensures.outcome)
