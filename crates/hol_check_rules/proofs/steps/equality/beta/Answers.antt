use Rattle.std.proofs.Common.{[], not, sym, ◌∙◌, ap}
use Rattle.hol_check_rules.proofs.StepLemmas.{ruled-taken}
use Rattle.hol_check_rules.proofs.steps.equality.beta.Goals as goal

pub returns-clause-taken : goal.returns-clause-taken
returns-clause-taken c =
    ruled-taken _ _ _ _ (ap not (sym c.in_ok-trivial.ensures.trivial ∙ c.if-not-trivial.false))
    (c.conclude.ensures c.args.terms.now c.equation_of_redex.new.terms [] _ c.equation_of_redex.ensures.grows c.in_ok-hypotheses.ensures.all c.equation_of_redex.ensures.formed)
