use Rattle.hol_check_rules.proofs.AxiomLemmas.{grown-twice, term-kept}
use Rattle.hol_check_rules.proofs.steps.axioms.eta_conclusion.Goals as goal
use Rattle.hol_check_terms.proofs.GrowthLemmas.{term-there}

pub returns-clause-formed : goal.returns-clause-formed
returns-clause-formed c =
    let left = term-kept c.eta_abstraction.new.terms c.eta_variable.new.terms c.in_ok-left.left _ c.eta_variable.ensures.grows c.in_ok-left.ensures.named.number in
    let right = term-there c.eta_variable.new.terms.terms c.in_ok-right.right _ c.in_ok-right.ensures.named.number in
    rw (left, right) at c.equation_of.ensures.formed

pub returns-clause-grows : goal.returns-clause-grows
returns-clause-grows c = grown-twice c.args.terms.now c.eta_abstraction.new.terms c.eta_variable.new.terms c.equation_of.new.terms c.eta_abstraction.ensures.grows
    c.eta_variable.ensures.grows c.equation_of.ensures.grows
