use Rattle.std.proofs.Common.{◌≡◌, ◌++◌, true, not, sym, ◌∙◌, ap}
use Rattle.hol_model.specs.Logs.LogSequents as sequents
use Rattle.hol_model.specs.Logs.LogFaults.{takes}
use Rattle.hol_check_rules.specs.State.{sequent_in}
use Rattle.hol_check_rules.specs.Steps.{are_equations, AreInOrder}
use Rattle.hol_check_rules.proofs.StepLemmas.{typed-taken, both-but}
use Rattle.hol_check_rules.proofs.steps.equality.mk_comb.Goals as goal
use Rattle.hol_check_terms.proofs.GrowthLemmas.{term-grown, IsGrown-trans}

pub returns-clause-taken : goal.returns-clause-taken
returns-clause-taken c =
    let t0 = c.args.terms.now in
    let t1 = c.sides_fit.new.terms in
    let t2 = c.equation_of_applications.new.terms in
    let grows = c.sides_fit.ensures.grows in
    let first = sequent_in t0.terms c.args.first.now in
    let second = sequent_in t0.terms c.args.second.now in
    let are : are_equations first second ≡ true = cc (c.are_equations.ensures, c.if-not-are_equations.false) in
    let fit : takes (sequents.side_type first.conclusion) (sequents.side_type second.conclusion) ≡ true = sym c.in_ok-fit.ensures.fit ∙ c.if-not-fit.false in
    let order : AreInOrder t0.terms c.in_ok-hypotheses.hypotheses.items (first.hypotheses ++ second.hypotheses) = rw (c.deref.ensures.value, c.deref-2.ensures.value) at c.in_ok-hypotheses.ensures.all in
    let f = term-grown t0 t1 c.left_side-function.result grows c.left_side-function.ensures.within ∙ c.left_side-function.ensures.side in
    let x = term-grown t0 t1 c.left_side-argument.result grows c.left_side-argument.ensures.within ∙ c.left_side-argument.ensures.side in
    let g = term-grown t0 t1 c.right_side-other_function.result grows c.right_side-other_function.ensures.within ∙ c.right_side-other_function.ensures.side in
    let y = term-grown t0 t1 c.right_side-other_argument.result grows c.right_side-other_argument.ensures.within ∙ c.right_side-other_argument.ensures.side in
    let formed = rw (f, x, g, y) at c.equation_of_applications.ensures.formed in
    typed-taken _ _ _ _ _ (both-but _ _ fit) (ap not are)
    (c.conclude.ensures t0 t2 (first.hypotheses ++ second.hypotheses) _ (IsGrown-trans t0 t1 t2 grows c.equation_of_applications.ensures.grows) order formed)
