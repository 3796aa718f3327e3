use Rattle.std.proofs.Common.{◌≡◌, true, ◌++◌}
use Rattle.hol_model.specs.Terms.Nameless.{same_term}
use Rattle.hol_model.specs.Logs.LogSequents as sequents
use Rattle.hol_check_rules.specs.State.{sequent_in}
use Rattle.hol_check_rules.specs.Steps.{are_equations, AreInOrder}
use Rattle.hol_check_rules.proofs.StepLemmas.{ruled-taken, not-both}
use Rattle.hol_check_rules.proofs.steps.equality.trans.Goals as goal

pub returns-clause-taken : goal.returns-clause-taken
returns-clause-taken c =
    let terms = c.args.terms.now.terms in
    let first = sequent_in terms c.args.first.now in
    let second = sequent_in terms c.args.second.now in
    let are : are_equations first second ≡ true = cc (c.are_equations.ensures, c.if-not-are_equations.false) in
    let same : same_term (sequents.right_side first.conclusion) (sequents.left_side second.conclusion) ≡ true =
    cc (c.is_same.ensures, c.if-not-is_same.false, c.right_side.ensures.side, c.left_side.ensures.side) in
    let order : AreInOrder terms c.in_ok-hypotheses.hypotheses.items (first.hypotheses ++ second.hypotheses) = rw (c.deref.ensures.value, c.deref-2.ensures.value) at c.in_ok-hypotheses.ensures.all in
    let formed = rw (c.left_side-left.ensures.side, c.right_side-right.ensures.side) at c.equation_of.ensures.formed in
    ruled-taken _ _ _ _ (not-both _ _ are same) (c.conclude.ensures c.args.terms.now c.equation_of.new.terms (first.hypotheses ++ second.hypotheses) _ c.equation_of.ensures.grows order formed)
