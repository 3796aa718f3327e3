use Rattle.std.proofs.Common.{refl}
use Rattle.hol_bool.specs.Axioms.{eta_axiom}
use Rattle.hol_bool.proofs.axiom_rules.eta_ax.Goals as goal

pub returns-clause-ok : goal.returns-clause-ok
returns-clause-ok c = c.restated.ensures.ok eta_axiom (record { theorem_is = refl; fits = refl })

pub returns-clause-err : goal.returns-clause-err
returns-clause-err c = c.restated.ensures.err eta_axiom (record { theorem_is = refl; fits = refl })
