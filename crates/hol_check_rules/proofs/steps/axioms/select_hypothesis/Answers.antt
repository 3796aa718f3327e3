use Rattle.std.proofs.Common.{refl}
use Rattle.hol_model.specs.Logic.Derivable.{select_predicate, select_variable, select_hypothesis}
use Rattle.hol_check_rules.proofs.AxiomLemmas.{application-named, named-fits}
use Rattle.hol_check_rules.proofs.steps.axioms.select_hypothesis.Goals as goal

pub returns-clause-named : goal.returns-clause-named
returns-clause-named c =
    application-named c.select_predicate.new.terms c.select_variable.new.terms c.application.new.self.terms c.in_ok-predicate.predicate c.in_ok-argument.argument c.application.result
    select_predicate select_variable c.in_ok-predicate.ensures.named.number c.select_variable.ensures.grows c.in_ok-argument.ensures.named.number refl c.application.ensures.number
    c.application.ensures.refused

pub returns-clause-fitting : goal.returns-clause-fitting
returns-clause-fitting c =
    let named =
    application-named c.select_predicate.new.terms c.select_variable.new.terms c.application.new.self.terms c.in_ok-predicate.predicate c.in_ok-argument.argument c.application.result
    select_predicate select_variable c.in_ok-predicate.ensures.named.number c.select_variable.ensures.grows c.in_ok-argument.ensures.named.number refl c.application.ensures.number
    c.application.ensures.refused in
    named-fits c.application.new.self.terms select_hypothesis c.application.result refl named.number
