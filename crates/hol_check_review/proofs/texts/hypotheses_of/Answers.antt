use Rattle.std.proofs.Common.{List, ◌+◌, take, sym, subst}
use Rattle.hol_model.specs.Terms.NamedTerm.{NamedTerm}
use Rattle.hol_syntax.specs.Scope.{scope_of}
use Rattle.hol_check_review.specs.Reviews.{AreNamedFormulas}
use Rattle.hol_check_review.proofs.TextLemmas.{formula_more, item_there}
use Rattle.hol_check_review.proofs.texts.hypotheses_of.Goals as goal

pub loop-place-preserved : goal.loop-place-preserved
loop-place-preserved c =
    let shown = c.args.claim.now.sequent.hypotheses in
    let scope = scope_of c.args.scope.now in
    subst (λ (terms : List NamedTerm). AreNamedFormulas scope (take (c.loop-place.place + 1) shown) terms) (sym {A = List NamedTerm} c.in_ok-push.ensures.items)
    (formula_more scope shown c.loop-place.place c.loop-place.hyps.items c.in-Some.hyp c.in_ok-formula_of.field-0 c.in-Some.ensures c.loop-place.invariant c.in_ok-formula_of.ensures)

pub unreachable-requires : goal.unreachable-requires
unreachable-requires c = item_there c.args.claim.now.sequent.hypotheses c.loop-place.place c.hyp_count-place-end.result c.in_default.ensures c.loop-place-test.true c.hyp_count-place-end.ensures
