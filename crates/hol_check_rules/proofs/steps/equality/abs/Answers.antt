use Rattle.std.proofs.Common.{◌≡◌, true, false, not, sym, ◌∙◌, ap}
use Rattle.hol_model.specs.Logs.LogSequents as sequents
use Rattle.hol_model.specs.Logs.LogFaults.{is_free_in_any}
use Rattle.hol_check_rules.specs.State.{sequent_in}
use Rattle.hol_check_rules.specs.Steps.{AreInOrder}
use Rattle.hol_check_terms.specs.Terms.{term_at}
use Rattle.hol_check_rules.proofs.StepLemmas.{typed-taken, neither}
use Rattle.hol_check_rules.proofs.steps.equality.abs.Goals as goal

pub returns-clause-taken : goal.returns-clause-taken
returns-clause-taken c =
    let terms = c.args.terms.now.terms in
    let premise = sequent_in terms c.args.premise.now in
    let variable : sequents.is_free_variable (term_at terms c.args.variable) ≡ true = cc (c.is_free_variable.ensures, c.if-not-is_free_variable.false) in
    let equation : sequents.is_equation premise.conclusion ≡ true = cc (c.is_equation.ensures, c.if-not-is_equation.false) in
    let found = rw c.deref.ensures.value at c.in_ok-found.ensures.found in
    let none : is_free_in_any (term_at terms c.args.variable) premise.hypotheses ≡ false = sym found ∙ c.if-found.false in
    let order : AreInOrder terms c.in_ok-hypotheses.hypotheses.items premise.hypotheses = rw c.deref-2.ensures.value at c.in_ok-hypotheses.ensures.all in
    let formed = rw (c.left_side-left.ensures.side, c.right_side-right.ensures.side) at c.equation_of_abstractions.ensures.formed in
    typed-taken _ _ _ _ _ (ap not variable) (neither _ _ equation none) (c.conclude.ensures c.args.terms.now c.equation_of_abstractions.new.terms premise.hypotheses
    (sequents.equation_of (sequents.abstraction_over (term_at terms c.args.variable) (sequents.left_side premise.conclusion))
    (sequents.abstraction_over (term_at terms c.args.variable) (sequents.right_side premise.conclusion))) c.equation_of_abstractions.ensures.grows order formed)
