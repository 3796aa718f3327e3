use Rattle.std.proofs.Common.{◌≡◌, ◌++◌, true}
use Rattle.hol_model.specs.Terms.Nameless.{same_term}
use Rattle.hol_model.specs.Logs.LogSequents as sequents
use Rattle.hol_check_rules.specs.State.{sequent_in}
use Rattle.hol_check_rules.specs.Steps.{AreInOrder}
use Rattle.hol_check_rules.proofs.StepLemmas.{ruled-taken, not-both}
use Rattle.hol_check_rules.proofs.steps.logic.eq_mp.Goals as goal

pub returns-clause-taken : goal.returns-clause-taken
returns-clause-taken c =
    let terms = c.args.terms.now.terms in
    let first = sequent_in terms c.args.first.now in
    let second = sequent_in terms c.args.second.now in
    let is : sequents.is_equation first.conclusion ≡ true = cc (c.is_equation.ensures, c.if-not-is_equation.false) in
    let same : same_term (sequents.left_side first.conclusion) second.conclusion ≡ true = cc (c.is_same.ensures, c.if-not-is_same.false, c.left_side.ensures.side) in
    let order : AreInOrder terms c.in_ok-hypotheses.hypotheses.items (first.hypotheses ++ second.hypotheses) = rw (c.deref.ensures.value, c.deref-2.ensures.value) at c.in_ok-hypotheses.ensures.all in
    let formed = rw c.right_side-right.ensures.side at c.within_limits.ensures.formed in
    ruled-taken _ _ _ _ (not-both _ _ is same) (c.conclude.ensures c.args.terms.now c.within_limits.new.terms (first.hypotheses ++ second.hypotheses) _ c.within_limits.ensures.grows order formed)
