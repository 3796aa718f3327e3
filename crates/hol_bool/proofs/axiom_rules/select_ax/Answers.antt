use Rattle.std.proofs.Common.{refl}
use Rattle.hol_bool.specs.Axioms.{select_axiom}
use Rattle.hol_bool.proofs.axiom_rules.select_ax.Goals as goal

pub returns-clause-ok : goal.returns-clause-ok
returns-clause-ok c = c.restated.ensures.ok select_axiom (record { theorem_is = refl; fits = refl })

pub returns-clause-err : goal.returns-clause-err
returns-clause-err c = c.restated.ensures.err select_axiom (record { theorem_is = refl; fits = refl })
