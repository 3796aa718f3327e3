use Rattle.std.proofs.Common.{refl}
use Rattle.hol_check_rules.proofs.AxiomLemmas.{abstraction-named}
use Rattle.hol_check_rules.proofs.steps.axioms.eta_abstraction.Goals as goal

pub returns-clause-named : goal.returns-clause-named
returns-clause-named c =
    abstraction-named c.eta_application.new.terms c.type_variable.new.self c.abstraction.new.self.terms c.in_ok-body.body c.in_ok-ty.ty c.abstraction.result _ _
    c.in_ok-body.ensures.named.number c.type_variable.ensures.grows c.in_ok-ty.ensures.number refl c.abstraction.ensures.number c.abstraction.ensures.refused
