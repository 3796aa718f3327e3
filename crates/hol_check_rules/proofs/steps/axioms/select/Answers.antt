use Rattle.std.proofs.Common.{[], ◌∷◌}
use Rattle.hol_model.specs.Logic.Derivable.{select_hypothesis, select_conclusion}
use Rattle.hol_check_rules.proofs.steps.axioms.select.Goals as goal
use Rattle.hol_check_terms.proofs.GrowthLemmas.{term-there}

pub returns-clause-taken : goal.returns-clause-taken
returns-clause-taken c =
    let t1 = c.select_hypothesis.new.terms in
    let order = rw (term-there t1.terms c.in_ok-hypothesis.hypothesis select_hypothesis c.in_ok-hypothesis.ensures.named.number) at c.in_ok-hypotheses.ensures.all in
    c.conclude.ensures t1 c.select_conclusion.new.terms (select_hypothesis ∷ []) select_conclusion c.select_conclusion.ensures.grows order c.select_conclusion.ensures.formed
