use Rattle.std.proofs.Common.{refl}
use Rattle.hol_check_rules.proofs.AxiomLemmas.{application-named}
use Rattle.hol_check_rules.proofs.steps.axioms.eta_application.Goals as goal

pub returns-clause-named : goal.returns-clause-named
returns-clause-named c =
    application-named c.eta_variable.new.terms c.bound.new.self c.application.new.self.terms c.in_ok-function.function c.in_ok-argument.argument c.application.result _ _
    c.in_ok-function.ensures.named.number c.bound.ensures.grows c.in_ok-argument.ensures.number refl c.application.ensures.number c.application.ensures.refused
