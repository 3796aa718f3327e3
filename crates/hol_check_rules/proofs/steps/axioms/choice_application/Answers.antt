use Rattle.std.proofs.Common.{refl}
use Rattle.hol_check_rules.proofs.AxiomLemmas.{application-named}
use Rattle.hol_check_rules.proofs.steps.axioms.choice_application.Goals as goal

pub returns-clause-named : goal.returns-clause-named
returns-clause-named c =
    application-named c.choice.new.terms c.select_predicate.new.terms c.application.new.self.terms c.in_ok-choice.choice c.in_ok-predicate.predicate c.application.result _ _
    c.in_ok-choice.ensures.named.number c.select_predicate.ensures.grows c.in_ok-predicate.ensures.named.number refl c.application.ensures.number c.application.ensures.refused
